use Rattle.std.proofs.Common.{◌≡◌, drop}
use Rattle.std.specs.List.{flat_map}
use Rattle.ice_back_laws.specs.Numbers.{cell_names}
use Rattle.ice_back.specs.Adding.{with_names, HasRoomForNames}
use Rattle.ice_back.proofs.names.add_cell_names.Given as goal

abbrev pub invariant-loop-cell : goal.invariant-loop-cell
invariant-loop-cell l =
    HasRoomForNames l.netlist (flat_map cell_names (drop l.cell-index l.cells))
    × (with_names l.fn.netlist (flat_map cell_names l.cells) ≡ with_names l.netlist (flat_map cell_names (drop l.cell-index l.cells)))
