use Rattle.std.proofs.Common.{◌++◌}
use Rattle.ice_bits.specs.Configuration.{bits_of}
use Rattle.ice_back_laws.specs.Back.{input_cells, output_cells, level_cells}
use Rattle.ice_back.proofs.Rooms.{cells_first, cells_rest}
use Rattle.ice_back.proofs.logic.add_side.Goals as goal

pub add_input-requires-clause-room : goal.add_input-requires-clause-room
add_input-requires-clause-room c =
    cells_first c.args.netlist.now (input_cells c.args.configured.now.parts (bits_of c.args.configured.now.configuration) c.args.configured.now.configuration.extras c.args.configured.now.bonded.pads (c.args.number, c.args.pad))
    (output_cells c.args.configured.now.parts (bits_of c.args.configured.now.configuration) c.args.configured.now.configuration.extras c.args.configured.now.bonded.pads (c.args.number, c.args.pad) ++ level_cells c.args.configured.now.parts (bits_of c.args.configured.now.configuration) c.args.configured.now.configuration.extras (c.args.number, c.args.pad))
    c.requires.room

pub add_output-requires-clause-room : goal.add_output-requires-clause-room
add_output-requires-clause-room c =
    cells_first _ (output_cells c.args.configured.now.parts (bits_of c.args.configured.now.configuration) c.args.configured.now.configuration.extras c.args.configured.now.bonded.pads (c.args.number, c.args.pad)) (level_cells c.args.configured.now.parts (bits_of c.args.configured.now.configuration) c.args.configured.now.configuration.extras (c.args.number, c.args.pad))
    (cells_rest c.args.netlist.now _ (input_cells c.args.configured.now.parts (bits_of c.args.configured.now.configuration) c.args.configured.now.configuration.extras c.args.configured.now.bonded.pads (c.args.number, c.args.pad))
    (output_cells c.args.configured.now.parts (bits_of c.args.configured.now.configuration) c.args.configured.now.configuration.extras c.args.configured.now.bonded.pads (c.args.number, c.args.pad) ++ level_cells c.args.configured.now.parts (bits_of c.args.configured.now.configuration) c.args.configured.now.configuration.extras (c.args.number, c.args.pad))
    c.requires.room c.in_ok-add_input.ensures)

pub add_level-requires-clause-room : goal.add_level-requires-clause-room
add_level-requires-clause-room c =
    cells_rest _ _ (output_cells c.args.configured.now.parts (bits_of c.args.configured.now.configuration) c.args.configured.now.configuration.extras c.args.configured.now.bonded.pads (c.args.number, c.args.pad)) (level_cells c.args.configured.now.parts (bits_of c.args.configured.now.configuration) c.args.configured.now.configuration.extras (c.args.number, c.args.pad))
    (cells_rest c.args.netlist.now _ (input_cells c.args.configured.now.parts (bits_of c.args.configured.now.configuration) c.args.configured.now.configuration.extras c.args.configured.now.bonded.pads (c.args.number, c.args.pad))
    (output_cells c.args.configured.now.parts (bits_of c.args.configured.now.configuration) c.args.configured.now.configuration.extras c.args.configured.now.bonded.pads (c.args.number, c.args.pad) ++ level_cells c.args.configured.now.parts (bits_of c.args.configured.now.configuration) c.args.configured.now.configuration.extras (c.args.number, c.args.pad))
    c.requires.room c.in_ok-add_input.ensures)
    c.in_ok-add_output.ensures
