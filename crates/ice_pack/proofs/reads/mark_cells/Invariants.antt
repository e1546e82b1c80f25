use Rattle.std.proofs.Common.{◌≡◌, drop}
use Rattle.std.specs.List.{flat_map}
use Rattle.ice_cells.specs.Readings.{cell_roots}
use Rattle.ice_pack.specs.Marks.{marked}
use Rattle.ice_pack.proofs.reads.mark_cells.Given as goal

abbrev pub invariant-loop-cell : goal.invariant-loop-cell
invariant-loop-cell l = marked l.marks.items (flat_map cell_roots (drop l.cell-index l.cells)) ≡ marked l.initial.marks.items (flat_map cell_roots l.cells)
