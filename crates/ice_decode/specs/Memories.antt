-- Bits of which no row that is on reads an output of a memory.
use Rattle.std.specs.Prelude.{◌≡◌, ℕ, ◌⊎◌, Bool, true, false, None, Some, Option, List, map, find, option_map}
use Rattle.std.specs.List.{range_with_len}
use Rattle.ice_chip.specs.Database.{Parts}
use Rattle.ice_bits.specs.Configuration.{Bits}
use Rattle.ice_decode.specs.declared.driver.Switch.{Switch}
use Rattle.ice_decode.specs.declared.fault.DecodeFault.{DecodeFault}
use Rattle.ice_decode.specs.declared.fault.DecodeFault.TheVariants.{ForeignSource}
use Rattle.ice_decode.specs.Faults.{is_memory_wire}
use Rattle.ice_decode.specs.FirstFaults.{memory_source}
use Rattle.ice_decode.specs.Refusals.{IsFaultless, IsFaultOf}

-- a table of whether each wire is an output of a memory
abbrev pub memory_wires : Parts → List Bool
memory_wires parts = map (is_memory_wire parts) (range_with_len 0 parts.wires)

-- the source of the first of these rows whose source is an output of a memory
abbrev pub memory_source_of : Parts → List Switch → Option ℕ
memory_source_of parts switches = option_map (λ (s : Switch). s.source.0) (find (λ (s : Switch). is_memory_wire parts s.source.0) switches)

-- the bits have no fault, and this is the source of the first row that is on whose source is the output of a memory
pub record IsMemorySource (parts : Parts) (bits : Bits) (extras : List (ℕ × ℕ × ℕ)) (wire : ℕ) : Type 0 where
  pub faultless : IsFaultless parts bits extras
  pub first : memory_source parts bits ≡ Some wire

-- The fault that bits are refused for where no output of a memory may be read. Want of memory may come at any time.
abbrev pub IsPlainFaultOf : Parts → Bits → List (ℕ × ℕ × ℕ) → DecodeFault → Type 0
IsPlainFaultOf parts bits extras (ForeignSource wire) = IsFaultOf parts bits extras (ForeignSource wire) ⊎ IsMemorySource parts bits extras wire.0
IsPlainFaultOf parts bits extras fault = IsFaultOf parts bits extras fault

-- the bits have no fault, and no row that is on reads an output of a memory
pub record IsPlain (parts : Parts) (bits : Bits) (extras : List (ℕ × ℕ × ℕ)) : Type 0 where
  pub faultless : IsFaultless parts bits extras
  pub memories : memory_source parts bits ≡ None

-- ---- with or without block RAMs
-- the bits are taken where rows may read what block RAMs in use read out, or where they may not
abbrev pub IsTaken : Bool → Parts → Bits → List (ℕ × ℕ × ℕ) → Type 0
IsTaken true parts bits extras = IsFaultless parts bits extras
IsTaken false parts bits extras = IsPlain parts bits extras

-- and this is the fault that they are refused for
abbrev pub IsRefusedFor : Bool → Parts → Bits → List (ℕ × ℕ × ℕ) → DecodeFault → Type 0
IsRefusedFor true parts bits extras fault = IsFaultOf parts bits extras fault
IsRefusedFor false parts bits extras fault = IsPlainFaultOf parts bits extras fault
