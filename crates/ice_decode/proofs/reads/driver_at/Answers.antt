use Rattle.std.proofs.Common.{arith}
use Rattle.ice_bits.specs.Configuration.{bits_of}
use Rattle.ice_decode.specs.declared.driver.Driver.TheVariants.{Nothing}
use Rattle.ice_decode.specs.Drivers.{driver}
use Rattle.ice_decode.proofs.DriverTables.{table_long, table_at}
use Rattle.ice_decode.proofs.reads.driver_at.Goals as goal

pub bounds-drivers-wire : goal.bounds-drivers-wire
bounds-drivers-wire c =
    let long = table_long (driver c.args.chip.now (bits_of c.args.bits.now)) c.args.chip.now.wires c.args.drivers.now c.requires.drivers in
    omega (arith, c.requires.wire)

pub returns : goal.returns
returns c = table_at (driver c.args.chip.now (bits_of c.args.bits.now)) c.args.chip.now.wires c.args.drivers.now c.requires.drivers c.args.wire.0 Nothing c.requires.wire
