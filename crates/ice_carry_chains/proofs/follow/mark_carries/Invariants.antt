use Rattle.std.proofs.Common.{◌≡◌, drop, map}
use Rattle.ice_cells.specs.Readings.{carry_reading}
use Rattle.ice_cells.specs.Follows.{marked}
use Rattle.ice_carry_chains.proofs.follow.mark_carries.Given as goal

abbrev pub invariant-loop-c : goal.invariant-loop-c
invariant-loop-c l = marked l.marks.items (map carry_reading (drop l.c-index l.carries)) ≡ marked l.initial.marks.items (map carry_reading l.carries)
