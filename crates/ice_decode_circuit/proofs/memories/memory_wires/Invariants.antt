use Rattle.std.proofs.Common.{◌≡◌, map}
use Rattle.std.specs.List.{range_with_len}
use Rattle.ice_decode.specs.Faults.{is_memory_wire}
use Rattle.ice_decode_circuit.proofs.memories.memory_wires.Given as goal

abbrev pub invariant-loop-wire : goal.invariant-loop-wire
invariant-loop-wire l = l.memories.items ≡ map (is_memory_wire l.chip) (range_with_len 0 l.wire)
