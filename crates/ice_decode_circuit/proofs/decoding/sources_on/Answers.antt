use Rattle.std.proofs.Common.{List, subst}
use Rattle.ice_bits.specs.Configuration.{bits_of}
use Rattle.ice_decode.specs.declared.driver.Switch.{Switch}
use Rattle.ice_decode.specs.Tables.{AreSources}
use Rattle.ice_decode.proofs.Switches.{all_between}
use Rattle.ice_decode_circuit.proofs.decoding.sources_on.Goals as goal

pub sources_of-requires : goal.sources_of-requires
sources_of-requires c =
    all_between c.args.chip.now (bits_of c.args.bits.now) c.wires-wires.result c.args.switches.now c.wires-wires.ensures.chip.read c.wires-wires.ensures.wires c.requires

pub returns : goal.returns
returns c = subst (λ (switches : List Switch). AreSources switches c.in_ok-sources.sources.items) c.requires c.in_ok-sources.ensures
