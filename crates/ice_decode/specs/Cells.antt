-- The logic cells of a chip: their settings, and what their tables give.
use Rattle.std.specs.Prelude.{ℕ, Bool, true, false, Option, None, Some, List, [], ◌∷◌, map, filter, option_map, slice_index_or, if◌then◌else◌}
use Rattle.std.specs.List.{flat_map}
use Rattle.std.proofs.Common.{suc}
use Rattle.ice_base.specs.declared.number.TileAt.{TileAt}
use Rattle.ice_chip.specs.Database.{Parts, same_tile}
use Rattle.ice_chip.specs.declared.rows.TileLine.{TileLine}
use Rattle.ice_chip.specs.declared.rows.TileKind.{TileKind}
use Rattle.ice_chip.specs.declared.rows.TileKind.TheVariants.{Logic}
use Rattle.ice_bits.specs.Configuration.{Bits}
use Rattle.ice_bits.specs.Settings.{set_at}
use Rattle.ice_net.specs.declared.kind.Reset.{Reset}
use Rattle.ice_net.specs.declared.kind.Reset.TheVariants.{SyncReset, AsyncReset, SyncSet, AsyncSet}
use Rattle.ice_net.specs.Meaning.{number_of}
use Rattle.ice_chip.specs.Names.{cell_function}

-- ---- the cells of a chip
abbrev pub is_logic : TileKind → Bool
is_logic Logic = true
is_logic kind = false

abbrev pub is_logic_tile : TileAt × TileLine → Bool
is_logic_tile tile = is_logic tile.1.kind

-- the logic tiles in the order of the database
abbrev pub logic_tiles : Parts → List TileAt
logic_tiles parts = map (λ (tile : TileAt × TileLine). tile.0) (filter is_logic_tile parts.tiles)

-- the place of a tile among these
abbrev pub tile_place : TileAt → List TileAt → Option ℕ
tile_place t [] = None
tile_place t (u ∷ tiles) = if same_tile u t then Some 0 else option_map suc (tile_place t tiles)

-- the numbers of the eight cells of a tile
abbrev pub eight : List ℕ
eight = 0 ∷ 1 ∷ 2 ∷ 3 ∷ 4 ∷ 5 ∷ 6 ∷ 7 ∷ []

abbrev pub cells_in : TileAt → List (TileAt × ℕ)
cells_in t = map (λ i. (t, i)) eight

-- the logic cells, tile by tile
abbrev pub cells : Parts → List (TileAt × ℕ)
cells parts = flat_map cells_in (logic_tiles parts)

-- ---- the settings of a cell
-- the bit numbered k of cell i of a tile
abbrev pub cell_bit : Parts → Bits → TileAt → ℕ → ℕ → Bool
cell_bit parts bits t i k = set_at parts bits t (cell_function i) k

-- the carry is enabled
abbrev pub has_carry : Parts → Bits → TileAt → ℕ → Bool
has_carry parts bits t i = cell_bit parts bits t i 8

-- the cell's output is its flip-flop's
abbrev pub has_flop : Parts → Bits → TileAt → ℕ → Bool
has_flop parts bits t i = cell_bit parts bits t i 9

-- which way the flip-flop is set or reset, by whether it is set and whether at once
abbrev pub reset_by : Bool → Bool → Reset
reset_by false false = SyncReset
reset_by false true = AsyncReset
reset_by true false = SyncSet
reset_by true true = AsyncSet

abbrev pub reset_of : Parts → Bits → TileAt → ℕ → Reset
reset_of parts bits t i = reset_by (cell_bit parts bits t i 18) (cell_bit parts bits t i 19)

-- ---- the table of a cell
-- where each entry of the table stands among the cell's bits
abbrev pub table_places : List ℕ
table_places = 4 ∷ 14 ∷ 15 ∷ 5 ∷ 6 ∷ 16 ∷ 17 ∷ 7 ∷ 3 ∷ 13 ∷ 12 ∷ 2 ∷ 1 ∷ 11 ∷ 10 ∷ 0 ∷ []

abbrev pub table_entry : Parts → Bits → TileAt → ℕ → ℕ → Bool
table_entry parts bits t i j = cell_bit parts bits t i (slice_index_or table_places j 0)

-- what the table gives for the levels of the four inputs, the first the lowest digit of the entry's number
abbrev pub looked_up : Parts → Bits → TileAt → ℕ → List Bool → Bool
looked_up parts bits t i xs = table_entry parts bits t i (number_of xs)
