use Rattle.std.proofs.Common.{◌≡◌, drop}
use Rattle.std.specs.List.{list_any}
use Rattle.ice_cells.specs.Packed.{zero_by}
use Rattle.ice_pack_sinks.proofs.constants.needs_zero.Given as goal

abbrev pub invariant-loop-cell : goal.invariant-loop-cell
invariant-loop-cell l = list_any (zero_by l.origins) l.cells ≡ list_any (zero_by l.origins) (drop l.cell-index l.cells)
