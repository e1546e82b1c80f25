-- The laws of carries that are added at tables, whatever tables these are.
use Rattle.std.specs.Prelude.{◌≡◌, ℕ, ◌≤◌, ◌<◌, ◌-◌, Bool, true, false, List, length, All, Some, slice_get}
use Rattle.ice_net.specs.declared.cell.Cell.{Cell}
use Rattle.ice_net.specs.declared.kind.CellKind.{CellKind}
use Rattle.ice_net.specs.declared.kind.CellKind.TheVariants.{Lut, Cover, Carry, Flop, PadCell, Global}
use Rattle.ice_net.specs.Formed.{IsFormed}
use Rattle.ice_net.specs.Meaning.{shows}
use Rattle.ice_net.specs.NetlistData.{NetlistData}
use Rattle.ice_check.specs.Sound.{IsSound}
use Rattle.ice_carry_tails.specs.Tails.{with_tails}

abbrev pub is_lut : CellKind → Bool
is_lut (Lut table) = true
is_lut (Cover table width) = false
is_lut Carry = false
is_lut (Flop falling enable reset) = false
is_lut (PadCell pin_type pullup) = false
is_lut Global = false

-- a look-up table stands at this place
abbrev pub IsTableAt : NetlistData → ℕ → Type 0
IsTableAt n i = (cell : Cell) × (slice_get n.cells i ≡ Some cell) × (is_lut cell.kind ≡ true)

-- the netlist has names for so many carries and room for their signals, and each is added at a look-up table
pub record CanTakeTails (n : NetlistData) (tables : List ℕ) : Type 0 where
  pub few : length tables ≤ length n.names
  pub room : length tables ≤ 65534 - length n.names
  pub tables_are : All (IsTableAt n) tables

-- a netlist with such carries is well formed
abbrev pub TailsAreFormed : Type 0
TailsAreFormed = (n : NetlistData) (tables : List ℕ) → IsFormed n → CanTakeTails n tables → length n.cells < 1073000000 → IsFormed (with_tails n tables)

-- a sound netlist stays sound
abbrev pub TailsAreSound : Type 0
TailsAreSound = (n : NetlistData) (tables : List ℕ) → IsFormed n → CanTakeTails n tables → IsSound n → IsSound (with_tails n tables)

-- its ports drive, step by step, what they did before, for each list of levels
abbrev pub TailsShowTheSame : Type 0
TailsShowTheSame = (n : NetlistData) (tables : List ℕ) → IsFormed n → CanTakeTails n tables → (levels : List (List Bool)) → shows (with_tails n tables) levels ≡ shows n levels
