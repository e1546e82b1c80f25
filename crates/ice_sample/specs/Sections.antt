-- The sections before the bits: the device, pins, globals, input enables, column buffers and tiles.
use Rattle.std.specs.Prelude.{ℕ, List, [], ◌∷◌, ◌++◌, map, take, codes, decimal}
use Rattle.std.specs.List.{flat_map}
use Rattle.ice_base.specs.declared.number.TileAt.{TileAt}
use Rattle.ice_sample.specs.declared.grid.TileKind.{TileKind}
use Rattle.ice_sample.specs.declared.grid.TileKind.TheVariants.{Io, Logic}
use Rattle.ice_sample.specs.declared.grid.Tile.{Tile}
use Rattle.ice_sample.specs.declared.pads.Pad.{Pad}
use Rattle.ice_sample.specs.Tiles.{wire_count}
use Rattle.ice_sample.specs.Lines.{numbered, number_words, place_words, placed_words}

-- the name, the size and how many wires
abbrev pub device_lines : ℕ → ℕ → List (List ℕ)
device_lines w h = (codes ".device 1k " ++ number_words w h ++ codes " " ++ decimal (wire_count w h)) ∷ []

-- the place of a tile, if it is an IO tile
abbrev pub if_io : TileKind → TileAt → List TileAt
if_io Io t = t ∷ []
if_io Logic t = []

-- the place of a tile, if it is a logic tile
abbrev pub if_logic : TileKind → TileAt → List TileAt
if_logic Io t = []
if_logic Logic t = t ∷ []

-- the places of the IO tiles among tiles, in their order
abbrev pub io_places : List Tile → List TileAt
io_places ts = flat_map (λ t. if_io t.kind t.at) ts

-- the places of the logic tiles among tiles, in their order
abbrev pub logic_places : List Tile → List TileAt
logic_places ts = flat_map (λ t. if_logic t.kind t.at) ts

-- the pads of IO tiles: two of each, 0 before 1
abbrev pub pads_at : List TileAt → List Pad
pads_at places = flat_map (λ t. record { at = t; pio = 0 } ∷ record { at = t; pio = 1 } ∷ []) places

-- a pad's place and its number there
abbrev pub pad_words : Pad → List ℕ
pad_words p = placed_words p.at p.pio

-- the pads with the pins' names, which are numbers from 1
abbrev pub pin_lines : List Pad → List (List ℕ)
pin_lines pads = codes ".pins sample" ∷ numbered (λ _. 1) (λ pin p. (decimal pin ++ codes " " ++ pad_words p) ∷ []) 1 pads

-- places with the globals that they feed, from 0
abbrev pub global_rows : List TileAt → List (List ℕ)
global_rows places = codes ".gbufin" ∷ numbered (λ _. 1) (λ n t. placed_words t n ∷ []) 0 places

-- the first eight IO tiles feed the globals
abbrev pub global_lines : List TileAt → List (List ℕ)
global_lines places = global_rows (take 8 places)

-- the input enable of each pad is at its own place
abbrev pub input_enable_lines : List Pad → List (List ℕ)
input_enable_lines pads = codes ".ieren" ∷ map (λ p. pad_words p ++ codes " " ++ pad_words p) pads

-- the column buffers of each logic tile are in it
abbrev pub column_buffer_lines : List TileAt → List (List ℕ)
column_buffer_lines places = codes ".colbuf" ∷ map (λ t. place_words t ++ codes " " ++ place_words t) places

-- the heading of a tile of a kind
abbrev pub tile_heading : TileKind → List ℕ
tile_heading Io = codes ".io_tile "
tile_heading Logic = codes ".logic_tile "

abbrev pub tile_lines : List Tile → List (List ℕ)
tile_lines ts = map (λ t. tile_heading t.kind ++ place_words t.at) ts
