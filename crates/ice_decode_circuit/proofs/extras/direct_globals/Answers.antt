use Rattle.ice_decode_circuit.proofs.DirectGlobals.{are_direct}
use Rattle.ice_decode_circuit.proofs.extras.direct_globals.Goals as goal

pub returns : goal.returns
returns c = are_direct c.args.chip.now c.args.bits.now.extras c.is_chip.ensures.read c.eight_globals.result c.eight_globals.ensures
