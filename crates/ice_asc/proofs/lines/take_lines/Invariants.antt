use Rattle.std.proofs.Common.{◌≡◌}
use Rattle.ice_asc.specs.Grammar.{lines_say}
use Rattle.ice_asc.specs.Views.{reading_view}
use Rattle.ice_asc.proofs.lines.take_lines.Given as goal

abbrev pub invariant-loop-line : goal.invariant-loop-line
invariant-loop-line l =
    (goal.iterator-loop-line).can_next l.line-iterator × (goal.iterator-loop-line).is_finite l.line-iterator
    × (lines_say l.chip (reading_view l.fn.reading) l.fn.lines ≡ lines_say l.chip (reading_view l.reading) l.line-iterator)
