use Rattle.std.proofs.Common.{◌≡◌, drop}
use Rattle.ice_bits.specs.Configuration.{bits_of}
use Rattle.ice_decode.specs.Tables.{foreign_source_of}
use Rattle.ice_decode_circuit.proofs.foreign.first_foreign.Given as goal

abbrev pub invariant-loop-switch : goal.invariant-loop-switch
invariant-loop-switch l = foreign_source_of l.chip (bits_of l.bits) l.switches ≡ foreign_source_of l.chip (bits_of l.bits) (drop l.switch-index l.switches)
