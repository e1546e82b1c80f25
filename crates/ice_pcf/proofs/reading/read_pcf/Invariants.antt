use Rattle.std.proofs.Common.{◌≡◌, ◌++◌, Ok}
use Rattle.ice_pcf.specs.Grammar.{◌>>=◌, pin_lines_say, pin_text_says}
use Rattle.ice_pcf.proofs.reading.read_pcf.Given as goal

abbrev pub invariant-loop-line : goal.invariant-loop-line
invariant-loop-line l =
    (goal.iterator-loop-line).can_next l.line-iterator × (goal.iterator-loop-line).is_finite l.line-iterator
    × (pin_text_says l.text ≡ (pin_lines_say l.line-iterator >>= (λ constraints. Ok (l.constraints.items ++ constraints))))
