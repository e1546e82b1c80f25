-- Kinds of tiles that lack a function, or have one with another number of bits.
use Rattle.std.specs.Prelude.{ℕ, ◌==◌, ◌&&◌, ◌||◌, not, Bool, true, false, Option, None, Some, List, [], ◌∷◌, length, if◌then◌else◌}
use Rattle.std.specs.Map.{values_of}
use Rattle.ice_base.specs.declared.number.TileAt.{TileAt}
use Rattle.ice_chip.specs.Database.{Parts, FunctionRow, tile_known}
use Rattle.ice_chip.specs.Names.{cell_function, falling_clock_function, pin_type_function, input_enable_function}
use Rattle.ice_chip.specs.FunctionNames.{carry_set_function, pull_up_function}
use Rattle.ice_chip.specs.Functions.{is_read, is_logic_cell, same_kind}
pub use Rattle.ice_chip.specs.Functions.{has_function, has_each, has_column_buffers}
use Rattle.ice_chip.specs.LeastLine.{least_of}
use Rattle.ice_chip.specs.declared.rows.TileKind.{TileKind}
use Rattle.ice_chip.specs.declared.rows.TileKind.TheVariants.{Io, Logic, RamBottom, RamTop}
use Rattle.ice_chip.specs.declared.rows.TileLine.{TileLine}

-- ---- the kinds that tiles have
abbrev pub is_of_kind : TileKind → Option TileLine → Bool
is_of_kind kind None = false
is_of_kind kind (Some tile) = same_kind tile.kind kind

abbrev pub has_kind : TileKind → List TileLine → Bool
has_kind kind [] = false
has_kind kind (tile ∷ tiles) = if same_kind tile.kind kind then true else has_kind kind tiles

-- some tile is of the kind
abbrev pub has_tile : TileKind → List (TileAt × TileLine) → Bool
has_tile kind tiles = has_kind kind (values_of tiles)

-- the source of some row of the column buffers is a tile of the kind
abbrev pub is_buffer_source : TileKind → List (TileAt × TileLine) → List (TileAt × TileAt) → Bool
is_buffer_source kind tiles [] = false
is_buffer_source kind tiles (row ∷ rows) = if is_of_kind kind (tile_known tiles row.0) then true else is_buffer_source kind tiles rows

-- ---- the functions that a kind needs
-- the eight logic cells, the inverted clock and the first carry
abbrev pub has_logic : List FunctionRow → Bool
has_logic fs = has_each Logic cell_function 8 fs && has_function Logic falling_clock_function fs && has_function Logic carry_set_function fs

-- the six digits of the pin types of both pads
abbrev pub has_pin_types : List FunctionRow → Bool
has_pin_types fs = has_each Io (pin_type_function 0) 6 fs && has_each Io (pin_type_function 1) 6 fs

-- the input enables and pull-ups of both pads
abbrev pub has_pad_enables : List FunctionRow → Bool
has_pad_enables fs = has_each Io input_enable_function 2 fs && has_each Io pull_up_function 2 fs

-- all functions that the kind needs; logic and memory need column buffers where they are a source of them, and memory needs none of block
-- RAMs: a chip that lacks one has no block RAM
abbrev pub has_needed : Bool → TileKind → List FunctionRow → Bool
has_needed is_source Io fs = has_pin_types fs && has_pad_enables fs
has_needed is_source Logic fs = has_logic fs && (not is_source || has_column_buffers Logic fs)
has_needed is_source RamBottom fs = not is_source || has_column_buffers RamBottom fs
has_needed is_source RamTop fs = not is_source || has_column_buffers RamTop fs

abbrev pub lacks_needed : Parts → TileKind → Bool
lacks_needed parts kind = has_tile kind parts.tiles && not (has_needed (is_buffer_source kind parts.tiles parts.colbuf) kind parts.functions)

-- ---- the number of bits of a function
abbrev pub bits_needed : List ℕ → ℕ
bits_needed name = if is_logic_cell name then 20 else 1

-- a read function of a kind that has a tile, with another number of bits than it needs
abbrev pub has_wrong_bits : List (TileAt × TileLine) → FunctionRow → Bool
has_wrong_bits tiles f = is_read f.kind f.name && not (length f.bits == bits_needed f.name) && has_tile f.kind tiles

-- the least line of these functions with a wrong number of bits, and of one before them
abbrev pub wrong_bits : List (TileAt × TileLine) → Option ℕ → List FunctionRow → Option ℕ
wrong_bits tiles known [] = known
wrong_bits tiles known (f ∷ fs) = if has_wrong_bits tiles f then wrong_bits tiles (Some (least_of known f.line)) fs else wrong_bits tiles known fs

-- line 0 where a kind with a tile lacks a function that it needs, else the least line of a function with a wrong number of bits
abbrev pub lacks_function : Parts → Option ℕ
lacks_function parts =
    if lacks_needed parts Io || lacks_needed parts Logic || lacks_needed parts RamBottom || lacks_needed parts RamTop then Some 0
    else wrong_bits parts.tiles None parts.functions
