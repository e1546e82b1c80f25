use Rattle.std.proofs.Common.{arith}
use Rattle.ice_bits.specs.Configuration.{bits_of}
use Rattle.ice_back_laws.specs.Back.{logic_cells}
use Rattle.ice_back.proofs.Rooms.{cells_here, cells_next}
use Rattle.ice_back.proofs.logic.add_all_logic.Goals as goal

pub add_logic-requires-clause-room : goal.add_logic-requires-clause-room
add_logic-requires-clause-room c =
    cells_here (logic_cells c.args.configured.now.parts (bits_of c.args.configured.now.configuration) c.args.configured.now.configuration.extras c.args.configured.now.bonded.pads) c.loop-cell.netlist c.args.cells.now c.loop-cell.cell-index _ (omega arith) c.loop-cell.invariant.0

pub loop-cell-preserved : goal.loop-cell-preserved
loop-cell-preserved c =
    cells_next (logic_cells c.args.configured.now.parts (bits_of c.args.configured.now.configuration) c.args.configured.now.configuration.extras c.args.configured.now.bonded.pads) c.loop-cell.netlist c.add_logic.new.netlist _ c.args.cells.now c.loop-cell.cell-index _ (omega arith)
    c.loop-cell.invariant.0 c.loop-cell.invariant.1 c.in_ok-add_logic.ensures
