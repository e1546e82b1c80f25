use Rattle.std.proofs.Common.{◌<◌, ◌∙◌, List, length, get_or, ap, sym, subst, arith}
use Rattle.ice_bits.specs.Configuration.{bits_of}
use Rattle.ice_decode.specs.declared.driver.Driver.{Driver}
use Rattle.ice_decode.specs.declared.driver.Driver.TheVariants.{Nothing}
use Rattle.ice_decode.specs.Drivers.{driver}
use Rattle.ice_decode.proofs.DriverTables.{table_long, table_at}
use Rattle.ice_timing.proofs.delay.driver_of.Goals as goal

pub bounds-drivers-wire : goal.bounds-drivers-wire
bounds-drivers-wire c =
    let long = table_long (driver c.args.chip.now (bits_of c.args.circuit.now.configuration)) c.args.chip.now.wires c.args.circuit.now.drivers c.requires.circuit.driven_by in
    subst (λ (l : List Driver). c.args.wire.0 < length l) (sym c.drivers.ensures) (omega (arith, long, c.requires.wire))

pub returns : goal.returns
returns c =
    ap (λ (l : List Driver). get_or l c.args.wire.0 Nothing) c.drivers.ensures
    ∙ table_at (driver c.args.chip.now (bits_of c.args.circuit.now.configuration)) c.args.chip.now.wires c.args.circuit.now.drivers c.requires.circuit.driven_by c.args.wire.0 Nothing c.requires.wire
