use Rattle.std.proofs.Common.{◌≡◌}
use Rattle.ice_base.specs.Text.{lines, numbered}
use Rattle.ice_blif.specs.JoinedLines.{last_number}
use Rattle.ice_blif.proofs.cursor.last_line.Given as goal

abbrev pub invariant-loop-line : goal.invariant-loop-line
invariant-loop-line l =
    (goal.iterator-loop-line).can_next l.line-iterator × (goal.iterator-loop-line).is_finite l.line-iterator
    × (last_number 0 (numbered 1 (lines l.text)) ≡ last_number l.number l.line-iterator)
