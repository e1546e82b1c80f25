use Rattle.std.proofs.Common.{◌≡◌, drop, map}
use Rattle.ice_cells.specs.Readings.{carry_root}
use Rattle.ice_pack.specs.Marks.{marked}
use Rattle.ice_pack.proofs.reads.mark_carries.Given as goal

abbrev pub invariant-loop-carry : goal.invariant-loop-carry
invariant-loop-carry l = marked l.marks.items (map carry_root (drop l.carry-index l.carries)) ≡ marked l.initial.marks.items (map carry_root l.carries)
