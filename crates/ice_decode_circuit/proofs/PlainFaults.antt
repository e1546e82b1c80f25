-- Faults of bits that no output of a memory is read in.
use Rattle.std.proofs.Common.{ℕ, Bool, true, false, List, inl}
use Rattle.ice_chip.specs.Database.{Parts}
use Rattle.ice_bits.specs.Configuration.{Bits}
use Rattle.ice_decode.specs.declared.fault.DecodeFault.{DecodeFault}
use Rattle.ice_decode.specs.declared.fault.DecodeFault.TheVariants.{Contention, ForeignSource, ForeignFunction, ForeignExtra, ChipLoop, PinType, NoMemory}
use Rattle.ice_decode.specs.Memories.{IsPlainFaultOf, IsRefusedFor}
use Rattle.ice_decode.specs.Refusals.{IsFaultOf}

-- a fault of bits is one of them there too
plain_fault : (parts : Parts) (bits : Bits) (extras : List (ℕ × ℕ × ℕ)) (fault : DecodeFault) → IsFaultOf parts bits extras fault → IsPlainFaultOf parts bits extras fault
plain_fault parts bits extras (Contention wire rows) is = is
plain_fault parts bits extras (ForeignSource wire) is = inl is
plain_fault parts bits extras (ForeignFunction tile line) is = is
plain_fault parts bits extras (ForeignExtra extra) is = is
plain_fault parts bits extras (ChipLoop wires) is = is
plain_fault parts bits extras (PinType pad value) is = is
plain_fault parts bits extras NoMemory is = is

-- so they are refused for it, whether outputs of memories may be read or not
pub refused_for : (rams : Bool) (parts : Parts) (bits : Bits) (extras : List (ℕ × ℕ × ℕ)) (fault : DecodeFault) → IsFaultOf parts bits extras fault → IsRefusedFor rams parts bits extras fault
refused_for true parts bits extras fault is = is
refused_for false parts bits extras fault is = plain_fault parts bits extras fault is
