use Rattle.std.proofs.Common.{◌∙◌}
use Rattle.ice_bits.specs.Configuration.{bits_of}
use Rattle.ice_decode.proofs.Switches.{all_between}
use Rattle.ice_decode_circuit.proofs.memories.memory_source.Goals as goal

pub first_source-requires : goal.first_source-requires
first_source-requires c =
    all_between c.args.chip.now (bits_of c.args.bits.now) c.args.chip.now.wires c.deref.result.now c.is_chip.ensures.read (λ i. c.args.chip.now.wires)
    (c.deref.ensures.value ∙ c.in_ok-switches.ensures)
