use Rattle.std.proofs.Common.{◌≡◌, length}
use Rattle.ice_chip_build.specs.Marks.{LeaveTo}
use Rattle.ice_chip_build.proofs.marks.marks_of.Given as goal

abbrev pub invariant-loop-place : goal.invariant-loop-place
invariant-loop-place l =
    (goal.iterator-loop-place).can_next l.place-iterator × (goal.iterator-loop-place).is_finite l.place-iterator
    × (length l.marks.items ≡ 4096) × LeaveTo l.place-iterator l.marks.items l.lines.entries
