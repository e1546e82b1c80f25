use Rattle.std.proofs.Common.{false, arith}
use Rattle.ice_bits.specs.Configuration.{bits_of}
use Rattle.ice_decode.specs.ForeignSources.{is_foreign_wire}
use Rattle.ice_decode.proofs.DriverTables.{table_long, table_at}
use Rattle.ice_decode_circuit.proofs.foreign.is_marked.Goals as goal

pub bounds-foreign-wire : goal.bounds-foreign-wire
bounds-foreign-wire c =
    let long = table_long (is_foreign_wire c.args.chip.now (bits_of c.args.bits.now)) c.args.chip.now.wires c.args.foreign.now c.requires.foreign in
    omega (arith, c.requires.wire)

pub returns : goal.returns
returns c = table_at (is_foreign_wire c.args.chip.now (bits_of c.args.bits.now)) c.args.chip.now.wires c.args.foreign.now c.requires.foreign c.args.wire.0 false c.requires.wire
