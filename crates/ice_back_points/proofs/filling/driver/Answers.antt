use Rattle.std.proofs.Common.{◌<◌, ◌∙◌, List, length, get_or, ap, sym, subst}
use Rattle.ice_bits.specs.Configuration.{bits_of}
use Rattle.ice_decode.specs.declared.driver.Driver.{Driver}
use Rattle.ice_decode.specs.declared.driver.Driver.TheVariants.{Nothing}
use Rattle.ice_decode.proofs.DriverTables.{driver_within, driver_found}
use Rattle.ice_decode.proofs.Switches.{comes_from}
use Rattle.ice_back_points.proofs.filling.driver.Goals as goal

pub bounds-drivers-wire : goal.bounds-drivers-wire
bounds-drivers-wire c =
    subst (λ (l : List Driver). c.args.wire.0 < length l) (sym c.drivers.ensures)
    (driver_within c.args.chip.now (bits_of c.args.circuit.now.configuration) c.args.circuit.now.drivers c.args.wire.0 c.requires.drivers c.requires.wire)

pub returns-clause-driver : goal.returns-clause-driver
returns-clause-driver c =
    ap (λ (l : List Driver). get_or l c.args.wire.0 Nothing) c.drivers.ensures
    ∙ driver_found c.args.chip.now (bits_of c.args.circuit.now.configuration) c.args.circuit.now.drivers c.args.wire.0 Nothing c.requires.drivers c.requires.wire

pub returns-clause-source : goal.returns-clause-source
returns-clause-source c =
    comes_from c.args.chip.now (bits_of c.args.circuit.now.configuration) c.args.wire.0 (get_or c.drivers.result.now c.args.wire.0 Nothing) c.is_chip.ensures.read
    (ap (λ (l : List Driver). get_or l c.args.wire.0 Nothing) c.drivers.ensures
    ∙ driver_found c.args.chip.now (bits_of c.args.circuit.now.configuration) c.args.circuit.now.drivers c.args.wire.0 Nothing c.requires.drivers c.requires.wire)
