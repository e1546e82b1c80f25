use Rattle.ice_bits.specs.Configuration.{bits_of}
use Rattle.ice_decode.proofs.Switches.{all_between}
use Rattle.ice_decode_circuit.proofs.decoding.check_foreign.Goals as goal

pub foreign_source-requires : goal.foreign_source-requires
foreign_source-requires c =
    all_between c.args.chip.now (bits_of c.args.bits.now) c.args.chip.now.wires c.args.switches.now c.is_chip.ensures.read (λ i. c.args.chip.now.wires) c.requires.rows
