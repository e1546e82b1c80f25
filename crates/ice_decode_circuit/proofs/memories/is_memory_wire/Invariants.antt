use Rattle.std.proofs.Common.{◌≡◌, drop}
use Rattle.std.specs.List.{list_any}
use Rattle.ice_chip.specs.declared.placed.PlacedName.{PlacedName}
use Rattle.ice_decode.specs.Faults.{is_memory_output, is_memory_wire}
use Rattle.ice_decode_circuit.proofs.memories.is_memory_wire.Given as goal

abbrev pub invariant-loop-placed : goal.invariant-loop-placed
invariant-loop-placed l = is_memory_wire l.chip l.fn.wire.0 ≡ list_any (λ (n : PlacedName). is_memory_output n.name) (drop l.placed-index l.placed-items)
