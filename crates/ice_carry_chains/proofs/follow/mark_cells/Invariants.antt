use Rattle.std.proofs.Common.{◌≡◌, drop}
use Rattle.ice_cells.specs.Readings.{cells_readings}
use Rattle.ice_cells.specs.Follows.{marked}
use Rattle.ice_carry_chains.proofs.follow.mark_cells.Given as goal

abbrev pub invariant-loop-c : goal.invariant-loop-c
invariant-loop-c l = marked l.marks.items (cells_readings l.c (drop l.c l.cells)) ≡ marked l.initial.marks.items (cells_readings 0 l.cells)
