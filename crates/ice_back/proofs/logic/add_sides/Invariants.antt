use Rattle.std.proofs.Common.{◌≡◌}
use Rattle.std.specs.List.{flat_map}
use Rattle.ice_bits.specs.Configuration.{bits_of}
use Rattle.ice_back_laws.specs.Back.{side_cells, numbered_pads}
use Rattle.ice_back.specs.Adding.{with_cells, HasRoomForCells}
use Rattle.ice_back.proofs.PadCells.{from}
use Rattle.ice_back.proofs.logic.add_sides.Given as goal

abbrev pub invariant-loop-number : goal.invariant-loop-number
invariant-loop-number l =
    HasRoomForCells l.netlist (flat_map (side_cells l.configured.parts (bits_of l.configured.configuration) l.configured.configuration.extras l.configured.bonded.pads) (from l.number l.pads))
    × (with_cells l.fn.netlist (flat_map (side_cells l.configured.parts (bits_of l.configured.configuration) l.configured.configuration.extras l.configured.bonded.pads) (numbered_pads l.pads))
    ≡ with_cells l.netlist (flat_map (side_cells l.configured.parts (bits_of l.configured.configuration) l.configured.configuration.extras l.configured.bonded.pads) (from l.number l.pads)))
