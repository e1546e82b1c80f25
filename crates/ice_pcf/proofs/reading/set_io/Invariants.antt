use Rattle.std.proofs.Common.{◌≡◌, false}
use Rattle.ice_pcf.specs.Grammar.{set_io_says, no_options}
use Rattle.ice_pcf.proofs.reading.set_io.Given as goal

abbrev pub invariant-loop-word : goal.invariant-loop-word
invariant-loop-word l =
    (goal.iterator-loop-word).can_next l.words × (goal.iterator-loop-word).is_finite l.words
    × (set_io_says l.line false no_options l.fn.words ≡ set_io_says l.line l.value_due l.options l.words)
