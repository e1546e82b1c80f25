use Rattle.std.proofs.Common.{◌≡◌, ◌<◌, ◌≤◌, Some, length, sym, ◌∙◌, arith}
use Rattle.ice_bits.specs.Configuration.{bits_of}
use Rattle.ice_decode.specs.Drivers.{driver}
use Rattle.ice_decode.specs.Tables.{contended_among}
use Rattle.ice_decode.proofs.DriverTables.{contention_same, contended_below, table_long}
use Rattle.ice_decode_circuit.proofs.decoding.check_contention.Goals as goal

pub overflow_cast-result : goal.overflow_cast-result
overflow_cast-result c =
    let found : contended_among c.args.drivers.now ≡ Some (c.in-Some.wire, c.in-Some.first.0, c.in-Some.second.0) = sym c.in-Some.ensures in
    let below : c.in-Some.wire < length c.args.drivers.now = contended_below c.args.drivers.now (c.in-Some.wire, c.in-Some.first.0, c.in-Some.second.0) found in
    let long : length c.args.drivers.now ≡ c.args.chip.now.wires = table_long (driver c.args.chip.now (bits_of c.args.bits.now)) c.args.chip.now.wires c.args.drivers.now c.requires in
    let few : c.args.chip.now.wires ≤ 1048576 = c.is_chip.ensures.read.few_wires in
    omega arith

pub returns-in-Some-clause-fault : goal.returns-in-Some-clause-fault
returns-in-Some-clause-fault c = sym (contention_same c.args.chip.now (bits_of c.args.bits.now) c.args.drivers.now c.requires) ∙ sym c.in-Some.ensures

pub returns-in-None-clause-none : goal.returns-in-None-clause-none
returns-in-None-clause-none c = sym (contention_same c.args.chip.now (bits_of c.args.bits.now) c.args.drivers.now c.requires) ∙ sym c.in-None.ensures
