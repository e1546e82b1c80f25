-- The functions that tiles have.
use Rattle.std.specs.Prelude.{◌≡◌, ℕ, ◌<◌, true, Some, List, length, codes}
use Rattle.ice_base.specs.declared.number.TileAt.{TileAt}
use Rattle.ice_base.specs.declared.bit.BitAt.{BitAt}
use Rattle.ice_chip.specs.Database.{Parts, FunctionRow}
use Rattle.ice_chip.specs.Functions.{is_read, is_logic_cell, is_column_buffer, is_first_pin_type, is_second_pin_type, is_pad_enable}
use Rattle.ice_chip.specs.LacksFunction.{bits_needed}
use Rattle.ice_chip.specs.Lookups.{kind_at, function_of}
use Rattle.ice_chip.specs.declared.rows.TileKind.{TileKind}
use Rattle.ice_chip.specs.declared.rows.TileKind.TheVariants.{Io, Logic}
use Rattle.ice_chip_laws.specs.Bits.{function_place}

-- tiles of the kind have the function, with so many bits
pub record HasFunction (parts : Parts) (kind : TileKind) (name : List ℕ) (count : ℕ) : Type 0 where
  pub function : FunctionRow
  pub there : function_of parts kind name ≡ Some function
  pub long : length function.bits ≡ count
  -- and each of them stands somewhere
  pub bits : (k : ℕ) → k < count → (b : BitAt) × (function_place parts kind name k ≡ Some b)

-- the functions of logic tiles: eight cells, the clock's edge, and the first carry
pub record HasLogicFunctions (parts : Parts) : Type 0 where
  pub cells : (name : List ℕ) → is_logic_cell name ≡ true → HasFunction parts Logic name 20
  pub clock_edge : HasFunction parts Logic (codes "NegClk") 1
  pub first_carry : HasFunction parts Logic (codes "CarryInSet") 1

-- the functions of IO tiles: the pin types of two pads, their input enables and pull-ups
pub record HasPadFunctions (parts : Parts) : Type 0 where
  pub first_types : (name : List ℕ) → is_first_pin_type name ≡ true → HasFunction parts Io name 1
  pub second_types : (name : List ℕ) → is_second_pin_type name ≡ true → HasFunction parts Io name 1
  pub enables : (name : List ℕ) → is_pad_enable name ≡ true → HasFunction parts Io name 1

-- the column buffers of the eight globals
abbrev pub HasColumnBuffers : Parts → TileKind → Type 0
HasColumnBuffers parts kind = (name : List ℕ) → is_column_buffer name ≡ true → HasFunction parts kind name 1

pub record HasFunctions (parts : Parts) : Type 0 where
  pub logic : (t : TileAt) → kind_at parts t ≡ Some Logic → HasLogicFunctions parts
  pub pads : (t : TileAt) → kind_at parts t ≡ Some Io → HasPadFunctions parts
  -- each function that is read has its number of bits
  pub sized : (t : TileAt) (kind : TileKind) (name : List ℕ) (f : FunctionRow) → kind_at parts t ≡ Some kind → is_read kind name ≡ true
      → function_of parts kind name ≡ Some f → length f.bits ≡ bits_needed name
