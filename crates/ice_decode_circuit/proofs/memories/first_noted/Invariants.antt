use Rattle.std.proofs.Common.{◌≡◌, drop}
use Rattle.ice_decode.specs.Memories.{memory_source_of}
use Rattle.ice_decode_circuit.proofs.memories.first_noted.Given as goal

abbrev pub invariant-loop-switch : goal.invariant-loop-switch
invariant-loop-switch l = memory_source_of l.chip l.switches ≡ memory_source_of l.chip (drop l.switch-index l.switches)
