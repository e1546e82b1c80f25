use Rattle.std.proofs.Common.{subst}
use Rattle.ice_bits.specs.Configuration.{bits_of}
use Rattle.ice_decode_circuit.specs.Searched.{IsSearched}
use Rattle.ice_decode_circuit.proofs.Loopless.{loopless}
use Rattle.ice_decode_circuit.proofs.decoding.check_loops.Goals as goal

pub returns-in-Order-clause-loopless : goal.returns-in-Order-clause-loopless
returns-in-Order-clause-loopless c =
    loopless c.args.chip.now (bits_of c.args.bits.now) c.args.bits.now.extras c.is_chip.ensures.read c.in-Order.order.items
    (subst (IsSearched c.args.chip.now (bits_of c.args.bits.now) c.args.bits.now.extras) c.in-Order.is c.in_ok-order.ensures)
