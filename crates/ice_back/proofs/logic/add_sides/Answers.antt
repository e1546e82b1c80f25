use Rattle.std.proofs.Common.{arith}
use Rattle.ice_bits.specs.Configuration.{bits_of}
use Rattle.ice_back_laws.specs.Back.{side_cells}
use Rattle.ice_back.proofs.PadCells.{side_here, side_next}
use Rattle.ice_back.proofs.logic.add_sides.Goals as goal

pub add_side-requires-clause-room : goal.add_side-requires-clause-room
add_side-requires-clause-room c =
    side_here (side_cells c.args.configured.now.parts (bits_of c.args.configured.now.configuration) c.args.configured.now.configuration.extras c.args.configured.now.bonded.pads) c.args.pads.now c.loop-number.number _ (omega arith) c.loop-number.netlist c.loop-number.invariant.0

pub loop-number-preserved : goal.loop-number-preserved
loop-number-preserved c =
    side_next (side_cells c.args.configured.now.parts (bits_of c.args.configured.now.configuration) c.args.configured.now.configuration.extras c.args.configured.now.bonded.pads) c.args.pads.now c.loop-number.number _ (omega arith) c.loop-number.netlist c.add_side.new.netlist _
    c.loop-number.invariant.0 c.loop-number.invariant.1 c.in_ok-add_side.ensures
