use Rattle.std.proofs.Common.{◌++◌}
use Rattle.ice_bits.specs.Configuration.{bits_of}
use Rattle.ice_back_laws.specs.Back.{table_cells, carry_cells, flop_cells}
use Rattle.ice_back.proofs.Rooms.{cells_first, cells_rest}
use Rattle.ice_back.proofs.logic.add_logic.Goals as goal

pub add_table-requires-clause-room : goal.add_table-requires-clause-room
add_table-requires-clause-room c =
    cells_first c.args.netlist.now (table_cells c.args.configured.now.parts (bits_of c.args.configured.now.configuration) c.args.configured.now.configuration.extras c.args.configured.now.bonded.pads c.args.cell)
    (carry_cells c.args.configured.now.parts (bits_of c.args.configured.now.configuration) c.args.configured.now.configuration.extras c.args.configured.now.bonded.pads c.args.cell ++ flop_cells c.args.configured.now.parts (bits_of c.args.configured.now.configuration) c.args.configured.now.configuration.extras c.args.configured.now.bonded.pads c.args.cell)
    c.requires.room

pub add_carry-requires-clause-room : goal.add_carry-requires-clause-room
add_carry-requires-clause-room c =
    cells_first _ (carry_cells c.args.configured.now.parts (bits_of c.args.configured.now.configuration) c.args.configured.now.configuration.extras c.args.configured.now.bonded.pads c.args.cell) (flop_cells c.args.configured.now.parts (bits_of c.args.configured.now.configuration) c.args.configured.now.configuration.extras c.args.configured.now.bonded.pads c.args.cell)
    (cells_rest c.args.netlist.now _ (table_cells c.args.configured.now.parts (bits_of c.args.configured.now.configuration) c.args.configured.now.configuration.extras c.args.configured.now.bonded.pads c.args.cell)
    (carry_cells c.args.configured.now.parts (bits_of c.args.configured.now.configuration) c.args.configured.now.configuration.extras c.args.configured.now.bonded.pads c.args.cell ++ flop_cells c.args.configured.now.parts (bits_of c.args.configured.now.configuration) c.args.configured.now.configuration.extras c.args.configured.now.bonded.pads c.args.cell)
    c.requires.room c.in_ok-add_table.ensures)

pub add_flop-requires-clause-room : goal.add_flop-requires-clause-room
add_flop-requires-clause-room c =
    cells_rest _ _ (carry_cells c.args.configured.now.parts (bits_of c.args.configured.now.configuration) c.args.configured.now.configuration.extras c.args.configured.now.bonded.pads c.args.cell) (flop_cells c.args.configured.now.parts (bits_of c.args.configured.now.configuration) c.args.configured.now.configuration.extras c.args.configured.now.bonded.pads c.args.cell)
    (cells_rest c.args.netlist.now _ (table_cells c.args.configured.now.parts (bits_of c.args.configured.now.configuration) c.args.configured.now.configuration.extras c.args.configured.now.bonded.pads c.args.cell)
    (carry_cells c.args.configured.now.parts (bits_of c.args.configured.now.configuration) c.args.configured.now.configuration.extras c.args.configured.now.bonded.pads c.args.cell ++ flop_cells c.args.configured.now.parts (bits_of c.args.configured.now.configuration) c.args.configured.now.configuration.extras c.args.configured.now.bonded.pads c.args.cell)
    c.requires.room c.in_ok-add_table.ensures)
    c.in_ok-add_carry.ensures
