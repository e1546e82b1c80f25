-- Bits of which none of the faults is found, and of which no row that is on reads an output of a memory.
use Rattle.std.specs.Prelude.{ℕ, List}
use Rattle.ice_chip.specs.Database.{Parts}
use Rattle.ice_bits.specs.Configuration.{Bits}
use Rattle.ice_decode.specs.Memories.{IsPlain}
use Rattle.ice_decode_laws.specs.NoFault.{HaveNoFault}

-- such bits have no fault
abbrev pub PlainBitsHaveNoFault : Type 0
PlainBitsHaveNoFault = (parts : Parts) (bits : Bits) (extras : List (ℕ × ℕ × ℕ)) → IsPlain parts bits extras → HaveNoFault parts bits extras
