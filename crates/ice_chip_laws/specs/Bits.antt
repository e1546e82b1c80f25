-- The bits of functions.
use Rattle.std.specs.Prelude.{◌≡◌, ◌==◌, ◌&&◌, ℕ, ◌<◌, Bool, true, false, Option, None, Some, List, [], ◌∷◌, ◌++◌, map, find, slice_get}
use Rattle.std.specs.List.{flat_map, range_with_len}
use Rattle.std.specs.Option.{option_and_then}
use Rattle.ice_base.specs.declared.number.TileAt.{TileAt}
use Rattle.ice_base.specs.declared.bit.BitAt.{BitAt}
use Rattle.ice_chip.specs.Database.{Parts, FunctionRow, SwitchGroup, columns}
use Rattle.ice_chip.specs.FunctionNames.{power_up_function, ram_mode_function}
use Rattle.ice_chip.specs.Names.{cell_function, falling_clock_function, pin_type_function, input_enable_function, column_buffer_function}
use Rattle.ice_chip.specs.FunctionNames.{carry_set_function, pull_up_function}
use Rattle.ice_chip.specs.Functions.{is_read, is_foreign}
use Rattle.ice_chip.specs.Lookups.{kind_at, function_of}
use Rattle.ice_chip.specs.declared.rows.TileKind.{TileKind}
use Rattle.ice_chip.specs.declared.rows.TileKind.TheVariants.{Io, Logic, RamBottom, RamTop}
use Rattle.ice_base_values.specs.Order.{Has}

-- where the bit numbered k of a function stands in the tiles of a kind
abbrev pub function_place : Parts → TileKind → List ℕ → ℕ → Option BitAt
function_place parts kind name k = option_and_then (λ f. slice_get f.bits k) (function_of parts kind name)

-- the bit numbered k of the function, which is read in tiles of the kind, stands at the place
abbrev pub IsReadAt : Parts → TileKind → List ℕ → ℕ → BitAt → Type 0
IsReadAt parts kind name k b = (is_read kind name ≡ true) × (function_place parts kind name k ≡ Some b)

-- ---- the function at a place
abbrev pub buffer_bits : List (List ℕ × ℕ)
buffer_bits = map (λ n. (column_buffer_function n, 0)) (range_with_len 0 8)

-- the bits of the functions of a pad of an IO tile
abbrev pub pad_bits : ℕ → List (List ℕ × ℕ)
pad_bits pio = map (λ place. (pin_type_function pio place, 0)) (range_with_len 0 6) ++ (input_enable_function pio, 0) ∷ (pull_up_function pio, 0) ∷ []

abbrev pub cell_bits : ℕ → List (List ℕ × ℕ)
cell_bits cell = map (λ k. (cell_function cell, k)) (range_with_len 0 20)

-- the bits of the modes of the ports of a block RAM
abbrev pub mode_bits : List (List ℕ × ℕ)
mode_bits = map (λ place. (ram_mode_function place, 0)) (range_with_len 0 4)

-- the bits of the functions that are read in tiles of a kind, each by the function's name and its own number
abbrev pub read_bits : TileKind → List (List ℕ × ℕ)
read_bits Io = pad_bits 0 ++ pad_bits 1 ++ buffer_bits
read_bits Logic = flat_map cell_bits (range_with_len 0 8) ++ (falling_clock_function, 0) ∷ (carry_set_function, 0) ∷ buffer_bits
read_bits RamBottom = (falling_clock_function, 0) ∷ (power_up_function, 0) ∷ buffer_bits
read_bits RamTop = (falling_clock_function, 0) ∷ (mode_bits ++ buffer_bits)

abbrev pub is_there : BitAt → Option BitAt → Bool
is_there b None = false
is_there b (Some place) = (place.row == b.row) && (place.col == b.col)

-- the function that is read at a place of the tiles of a kind, and which of its bits this is
abbrev pub function_at : Parts → TileKind → BitAt → Option (List ℕ × ℕ)
function_at parts kind b = find (λ (bit : List ℕ × ℕ). is_there b (function_place parts kind bit.0 bit.1)) (read_bits kind)

-- ---- the laws
-- the bits of functions that are read stand in their tiles, and are of nothing else
pub record HasOwnBits (parts : Parts) : Type 0 where
  -- a bit of a function stands in one of the 16 rows and of the columns of its tiles
  pub within : (kind : TileKind) (name : List ℕ) (k : ℕ) (b : BitAt) → IsReadAt parts kind name k b → (b.row < 16) × (b.col < columns kind)
  -- a bit is of one function, and stands there once
  pub one_use : (kind : TileKind) (name other : List ℕ) (k l : ℕ) (b : BitAt) → IsReadAt parts kind name k b → IsReadAt parts kind other l b → (name ≡ other) × (k ≡ l)
  -- and of no function of a PLL or a pair of pads
  pub not_foreign : (kind : TileKind) (name : List ℕ) (k : ℕ) (b : BitAt) (f : FunctionRow) → IsReadAt parts kind name k b
      → Has parts.functions f → f.kind ≡ kind → is_foreign kind f.name ≡ true → Has f.bits b → ⊥
  -- and of no group of switches in a tile of the kind
  pub not_grouped : (kind : TileKind) (name : List ℕ) (k : ℕ) (b : BitAt) (g : SwitchGroup) → IsReadAt parts kind name k b
      → Has parts.groups g → kind_at parts g.tile ≡ Some kind → Has g.bits b → ⊥
  -- the function that is found at a place is read there
  pub found : (kind : TileKind) (name : List ℕ) (k : ℕ) (b : BitAt) → function_at parts kind b ≡ Some (name, k) → IsReadAt parts kind name k b
  -- and where a function is read in a kind that has a tile, it is found
  pub named : (t : TileAt) (kind : TileKind) (name : List ℕ) (k : ℕ) (b : BitAt) → kind_at parts t ≡ Some kind → IsReadAt parts kind name k b → function_at parts kind b ≡ Some (name, k)
