use Rattle.std.proofs.Common.{◌≡◌, map}
use Rattle.std.specs.List.{range_with_len}
use Rattle.ice_bits.specs.Configuration.{bits_of}
use Rattle.ice_decode.specs.ForeignSources.{is_foreign_wire}
use Rattle.ice_decode_circuit.proofs.foreign.foreign_wires.Given as goal

abbrev pub invariant-loop-wire : goal.invariant-loop-wire
invariant-loop-wire l = l.foreign.items ≡ map (is_foreign_wire l.chip (bits_of l.bits)) (range_with_len 0 l.wire)
