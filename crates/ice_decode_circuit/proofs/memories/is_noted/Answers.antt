use Rattle.std.proofs.Common.{false, arith}
use Rattle.ice_decode.specs.Faults.{is_memory_wire}
use Rattle.ice_decode.proofs.DriverTables.{table_long, table_at}
use Rattle.ice_decode_circuit.proofs.memories.is_noted.Goals as goal

pub bounds-memories-wire : goal.bounds-memories-wire
bounds-memories-wire c =
    let long = table_long (is_memory_wire c.args.chip.now) c.args.chip.now.wires c.args.memories.now c.requires.memories in
    omega (arith, c.requires.wire)

pub returns : goal.returns
returns c = table_at (is_memory_wire c.args.chip.now) c.args.chip.now.wires c.args.memories.now c.requires.memories c.args.wire.0 false c.requires.wire
