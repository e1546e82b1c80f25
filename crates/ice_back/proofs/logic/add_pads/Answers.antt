use Rattle.std.proofs.Common.{arith}
use Rattle.ice_bits.specs.Configuration.{bits_of}
use Rattle.ice_back_laws.specs.Back.{pad_cell}
use Rattle.ice_back.proofs.PadCells.{pad_here, pad_next}
use Rattle.ice_back.proofs.logic.add_pads.Goals as goal

pub add_pad-requires-clause-room : goal.add_pad-requires-clause-room
add_pad-requires-clause-room c =
    pad_here (pad_cell c.args.configured.now.parts (bits_of c.args.configured.now.configuration) c.args.configured.now.configuration.extras c.args.configured.now.bonded.pads) c.args.pads.now c.loop-number.number _ (omega arith) c.loop-number.netlist c.loop-number.invariant.0

pub loop-number-preserved : goal.loop-number-preserved
loop-number-preserved c =
    pad_next (pad_cell c.args.configured.now.parts (bits_of c.args.configured.now.configuration) c.args.configured.now.configuration.extras c.args.configured.now.bonded.pads) c.args.pads.now c.loop-number.number _ (omega arith) c.loop-number.netlist c.add_pad.new.netlist _
    c.loop-number.invariant.0 c.loop-number.invariant.1 c.in_ok-add_pad.ensures
