-- The groups of switches of each tile.
use Rattle.std.specs.Prelude.{ℕ, ◌+◌, ◌*◌, ◌-◌, ◌%◌, ◌==◌, Option, Some, None, List, [], ◌∷◌, ◌++◌, map, if◌then◌else◌, codes, decimal}
use Rattle.std.specs.List.{flat_map, range_with_len}
use Rattle.ice_base.specs.declared.number.TileAt.{TileAt}
use Rattle.ice_sample.specs.declared.grid.TileKind.{TileKind}
use Rattle.ice_sample.specs.declared.grid.TileKind.TheVariants.{Io, Logic}
use Rattle.ice_sample.specs.declared.grid.Tile.{Tile}
use Rattle.ice_sample.specs.Kinds.{kind_at}
use Rattle.ice_sample.specs.Tiles.{first_wire}
use Rattle.ice_sample.specs.Lines.{numbered, placed_words, binary}
use Rattle.ice_sample.specs.Bits.{columns_of, bit_words, function_bits}

-- a group of switches: the wire that it drives, how many bits it has, and the wires that it can take, in order
pub record SampleGroup : Type 0 where
  pub target : ℕ
  pub size : ℕ
  pub sources : List ℕ

-- The rows of a group of a size, for sources of which the first has this value: each value is one more than that before it.
abbrev pub source_rows : ℕ → ℕ → List ℕ → List (List ℕ)
source_rows size value sources = numbered (λ _. 1) (λ v source. (binary size v ++ codes " " ++ decimal source) ∷ []) value sources

abbrev pub group_heading : TileKind → TileAt → ℕ → SampleGroup → List ℕ
group_heading kind t bit g = codes ".buffer " ++ placed_words t g.target ++ bit_words (columns_of kind) bit g.size

-- a group of a tile whose first bit has this number: the values of its rows begin with 1
abbrev pub group_lines : TileKind → TileAt → ℕ → SampleGroup → List (List ℕ)
group_lines kind t bit g = group_heading kind t bit g ∷ source_rows g.size 1 g.sources

-- groups of a tile whose bits are numbered from this one
abbrev pub groups_from : TileKind → TileAt → ℕ → List SampleGroup → List (List ℕ)
groups_from kind t bit gs = numbered (λ (g : SampleGroup). g.size) (group_lines kind t) bit gs

-- ---- tracks

-- where the tracks of a tile stand among its wires
abbrev pub track_place : TileKind → ℕ
track_place Io = 7
track_place Logic = 52

-- how many bits the group of a track has
abbrev pub track_size : TileKind → ℕ
track_size Io = 3
track_size Logic = 4

-- the outputs of a tile, from its first wire: of its two pads, or of its eight cells
abbrev pub outputs : TileKind → ℕ → List ℕ
outputs Io first = map (λ p. first + 3 * p) (range_with_len 0 2)
outputs Logic first = map (λ i. first + 6 * i + 4) (range_with_len 0 8)

-- the places to the west, east, south and north of a place; those below 0 are left out
abbrev pub west : TileAt → List TileAt
west t = if t.x == 0 then [] else record { x = t.x - 1; y = t.y } ∷ []

abbrev pub east : TileAt → List TileAt
east t = record { x = t.x + 1; y = t.y } ∷ []

abbrev pub south : TileAt → List TileAt
south t = if t.y == 0 then [] else record { x = t.x; y = t.y - 1 } ∷ []

abbrev pub north : TileAt → List TileAt
north t = record { x = t.x; y = t.y + 1 } ∷ []

-- track k of a tile of a kind, if there is one, from its first wire
abbrev pub track_of : Option TileKind → ℕ → ℕ → List ℕ
track_of None first k = []
track_of (Some kind) first k = (first + track_place kind + k) ∷ []

-- track k of the tile at a place, if there is one
abbrev pub track_at : ℕ → ℕ → ℕ → TileAt → List ℕ
track_at w h k t = track_of (kind_at w h t) (first_wire w h t) k

-- track k of the tiles to the west, east, south and north that there are
abbrev pub tracks_beside : ℕ → ℕ → ℕ → TileAt → List ℕ
tracks_beside w h k t = flat_map (track_at w h k) (west t) ++ flat_map (track_at w h k) (east t) ++ flat_map (track_at w h k) (south t) ++ flat_map (track_at w h k) (north t)

-- track k of a tile takes the tile's outputs and the same track of the tiles beside it
abbrev pub track_group : ℕ → ℕ → TileKind → TileAt → ℕ → SampleGroup
track_group w h kind t k = record {
  target = first_wire w h t + track_place kind + k;
  size = track_size kind;
  sources = outputs kind (first_wire w h t) ++ tracks_beside w h k t;
}

unfoldable pub track_groups : ℕ → ℕ → TileKind → TileAt → List SampleGroup
track_groups w h kind t = map (track_group w h kind t) (range_with_len 0 64)

-- ---- pins

-- the eight tracks that pin p reads, from a tile's first track
unfoldable pub pin_tracks : ℕ → ℕ → List ℕ
pin_tracks tracks p = map (λ j. tracks + (p + 9 * j) % 64) (range_with_len 0 8)

-- the carry into cell i of a tile, from its first wire: its carry_in_mux, or the carry out of the cell before
abbrev pub carry_into : ℕ → ℕ → ℕ
carry_into first i = if i == 0 then first + 51 else first + 6 * (i - 1) + 5

-- input 3 takes the carry into its cell behind the tracks
abbrev pub carry_for : ℕ → ℕ → ℕ → List ℕ
carry_for first i k = if k == 3 then carry_into first i ∷ [] else []

-- input k of cell i, which is pin 4 i + k
abbrev pub input_group : ℕ → ℕ → ℕ → SampleGroup
input_group first i k = record {
  target = first + 6 * i + k;
  size = 4;
  sources = pin_tracks (first + 52) (4 * i + k) ++ carry_for first i k;
}

abbrev pub cell_groups : ℕ → ℕ → List SampleGroup
cell_groups first i = map (input_group first i) (range_with_len 0 4)

unfoldable pub input_groups : ℕ → List SampleGroup
input_groups first = flat_map (cell_groups first) (range_with_len 0 8)

-- control k of a logic tile, which is pin 32 + k, takes globals before the tracks of its pin
abbrev pub control_group : ℕ → ℕ → List ℕ → SampleGroup
control_group first k globals = record {
  target = first + 48 + k;
  size = 5;
  sources = globals ++ pin_tracks (first + 52) (32 + k);
}

-- control 0, the clock, takes all globals, control 1, the enable, the odd ones, and control 2, the set or reset, the even ones
abbrev pub control_groups : ℕ → List SampleGroup
control_groups first =
    control_group first 0 (0 ∷ 1 ∷ 2 ∷ 3 ∷ 4 ∷ 5 ∷ 6 ∷ 7 ∷ [])
    ∷ control_group first 1 (1 ∷ 3 ∷ 5 ∷ 7 ∷ [])
    ∷ control_group first 2 (0 ∷ 2 ∷ 4 ∷ 6 ∷ []) ∷ []

-- the carry out of a tile of a kind, from its first wire, if it is a logic tile
abbrev pub carry_out : Option TileKind → ℕ → List ℕ
carry_out None first = []
carry_out (Some Io) first = []
carry_out (Some Logic) first = (first + 47) ∷ []

-- the carry into a logic tile: the carry out of the tile to the south, if that is a logic tile
abbrev pub carry_in : ℕ → ℕ → TileAt → List ℕ
carry_in w h t = flat_map (λ s. carry_out (kind_at w h s) (first_wire w h s)) (south t)

-- the carry_in_mux takes the carry into the tile, and has no group where there is none
abbrev pub carry_groups : ℕ → List ℕ → List SampleGroup
carry_groups first [] = []
carry_groups first (carry ∷ more) = record { target = first + 51; size = 1; sources = carry ∷ more } ∷ []

-- a pin of an IO tile
abbrev pub io_pin_group : ℕ → ℕ → ℕ → SampleGroup
io_pin_group first place p = record { target = first + place; size = 4; sources = pin_tracks (first + 7) p }

-- the outputs and their enables of both pads, and fabout
abbrev pub io_pin_groups : ℕ → List SampleGroup
io_pin_groups first =
    io_pin_group first 1 0 ∷ io_pin_group first 2 1 ∷ io_pin_group first 4 2 ∷ io_pin_group first 5 3
    ∷ io_pin_group first 6 4 ∷ []

-- ---- all groups

-- the groups behind the tracks of a tile of a kind, from its first wire
abbrev pub pin_groups : ℕ → ℕ → TileKind → TileAt → ℕ → List SampleGroup
pin_groups w h Io t first = io_pin_groups first
pin_groups w h Logic t first = input_groups first ++ control_groups first ++ carry_groups first (carry_in w h t)

-- the groups of a tile: their bits are numbered on from those of the functions
abbrev pub own_group_lines : ℕ → ℕ → TileKind → TileAt → ℕ → List (List ℕ)
own_group_lines w h kind t first = groups_from kind t (function_bits kind) (track_groups w h kind t ++ pin_groups w h kind t first)

abbrev pub tile_group_lines : ℕ → ℕ → Tile → List (List ℕ)
tile_group_lines w h t = own_group_lines w h t.kind t.at (first_wire w h t.at)

-- the sections of the groups of tiles
abbrev pub all_group_lines : ℕ → ℕ → List Tile → List (List ℕ)
all_group_lines w h ts = flat_map (tile_group_lines w h) ts
