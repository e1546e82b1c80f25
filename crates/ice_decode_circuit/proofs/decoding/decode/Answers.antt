use Rattle.std.proofs.Common.{◌∙◌, sym, subst}
use Rattle.ice_chip.specs.Database.{Parts}
use Rattle.ice_bits.specs.Configuration.{Configuration, bits_of}
use Rattle.ice_decode.specs.Refusals.{CircuitData, IsCircuitOf}
use Rattle.ice_decode.proofs.Switches.{all_between, are_drivers}
use Rattle.ice_decode_circuit.proofs.decoding.decode.Goals as goal

-- a circuit of bits is that of the bits that it keeps
of_its_bits : (parts : Parts) (k : Configuration) (circuit : CircuitData) → IsCircuitOf parts k circuit → IsCircuitOf parts circuit.configuration circuit
of_its_bits parts k circuit of = subst (λ kept. IsCircuitOf parts kept circuit) (sym of.same) of

pub drivers_of-requires : goal.drivers_of-requires
drivers_of-requires c =
    all_between c.args.chip.now (bits_of c.args.bits.now) c.wires-wires.result c.deref.result.now c.wires-wires.ensures.chip.read c.wires-wires.ensures.wires (c.deref.ensures.value ∙ c.in_ok-switches.ensures)

pub check-requires-clause-drivers : goal.check-requires-clause-drivers
check-requires-clause-drivers c =
    are_drivers c.args.chip.now (bits_of c.args.bits.now) c.wires-wires.result c.deref.result.now c.deref-3.result.now c.wires-wires.ensures.wires (c.deref.ensures.value ∙ c.in_ok-switches.ensures)
    (c.deref-3.ensures.value ∙ c.in_ok-drivers.ensures)

pub circuit_of-requires-clause-drivers : goal.circuit_of-requires-clause-drivers
circuit_of-requires-clause-drivers c =
    are_drivers c.args.chip.now (bits_of c.args.bits.now) c.wires-wires.result c.deref.result.now c.in_ok-drivers.drivers.items c.wires-wires.ensures.wires (c.deref.ensures.value ∙ c.in_ok-switches.ensures)
    c.in_ok-drivers.ensures

pub returns-clause-own_bits : goal.returns-clause-own_bits
returns-clause-own_bits c = of_its_bits c.args.chip.now c.args.bits.now c.in_ok-circuit_of.field-0 c.in_ok-circuit_of.ensures
