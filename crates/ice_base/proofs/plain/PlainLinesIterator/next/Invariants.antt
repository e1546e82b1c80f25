use Rattle.std.proofs.Common.{◌≡◌, length}
use Rattle.ice_base.specs.Text.{plain_lines}
use Rattle.ice_base.proofs.plain.PlainLinesIterator.next.Given as goal

abbrev pub invariant-loop-line : goal.invariant-loop-line
invariant-loop-line l = plain_lines l.initial.self-inside.lines ≡ plain_lines l.self-inside.lines

abbrev pub decreases-loop-line : goal.decreases-loop-line
decreases-loop-line l = length l.self-inside.lines
