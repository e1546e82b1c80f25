use Rattle.std.proofs.Common.{◌≡◌, drop}
use Rattle.std.specs.List.{flat_map}
use Rattle.ice_bits.specs.Configuration.{bits_of}
use Rattle.ice_back_laws.specs.Back.{logic_cells}
use Rattle.ice_back.specs.Adding.{with_cells, HasRoomForCells}
use Rattle.ice_back.proofs.logic.add_all_logic.Given as goal

abbrev pub invariant-loop-cell : goal.invariant-loop-cell
invariant-loop-cell l =
    HasRoomForCells l.netlist (flat_map (logic_cells l.configured.parts (bits_of l.configured.configuration) l.configured.configuration.extras l.configured.bonded.pads) (drop l.cell-index l.cells))
    × (with_cells l.fn.netlist (flat_map (logic_cells l.configured.parts (bits_of l.configured.configuration) l.configured.configuration.extras l.configured.bonded.pads) l.cells)
    ≡ with_cells l.netlist (flat_map (logic_cells l.configured.parts (bits_of l.configured.configuration) l.configured.configuration.extras l.configured.bonded.pads) (drop l.cell-index l.cells)))
