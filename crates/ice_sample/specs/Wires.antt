-- The sections of the wires: the names of each wire.
use Rattle.std.specs.Prelude.{ℕ, ◌+◌, Option, Some, None, List, [], ◌∷◌, ◌++◌, map, codes, decimal}
use Rattle.std.specs.List.{flat_map, range_with_len}
use Rattle.ice_base.specs.declared.number.TileAt.{TileAt}
use Rattle.ice_sample.specs.declared.grid.TileKind.{TileKind}
use Rattle.ice_sample.specs.declared.grid.TileKind.TheVariants.{Io, Logic}
use Rattle.ice_sample.specs.declared.grid.Tile.{Tile}
use Rattle.ice_sample.specs.Kinds.{kind_at}
use Rattle.ice_sample.specs.Tiles.{first_wire}
use Rattle.ice_sample.specs.Lines.{numbered, place_words}

abbrev pub wire_heading : ℕ → List ℕ
wire_heading n = codes ".net " ++ decimal n

-- a name that the wire has in a tile
abbrev pub name_line : TileAt → List ℕ → List ℕ
name_line t name = place_words t ++ codes " " ++ name

-- a wire with one name
abbrev pub wire_lines : TileAt → ℕ → List ℕ → List (List ℕ)
wire_lines t n name = wire_heading n ∷ name_line t name ∷ []

-- wires with one name each, numbered from n
abbrev pub named_wires : TileAt → ℕ → List (List ℕ) → List (List ℕ)
named_wires t n names = numbered (λ _. 1) (wire_lines t) n names

-- a global wire, which has its name in every tile
abbrev pub global_wire_lines : List Tile → ℕ → List (List ℕ)
global_wire_lines ts n = wire_heading n ∷ map (λ t. name_line t.at (codes "glb_netwk_" ++ decimal n)) ts

-- the eight global wires
unfoldable pub all_global_lines : List Tile → List (List ℕ)
all_global_lines ts = flat_map (global_wire_lines ts) (range_with_len 0 8)

-- the names of the tracks of a tile, in order
unfoldable pub track_names : List (List ℕ)
track_names = map (λ k. codes "trk_" ++ decimal k) (range_with_len 0 64)

-- the names of the other wires of an IO tile, in order
unfoldable pub io_names : List (List ℕ)
io_names =
    codes "io_0/D_IN_0" ∷ codes "io_0/D_OUT_0" ∷ codes "io_0/OUT_ENB"
    ∷ codes "io_1/D_IN_0" ∷ codes "io_1/D_OUT_0" ∷ codes "io_1/OUT_ENB" ∷ codes "fabout" ∷ []

-- a name of the logic cell i
abbrev pub cell_name : ℕ → List ℕ → List ℕ
cell_name i pin = codes "lutff_" ++ decimal i ++ pin

-- the pins of a cell, in order
unfoldable pub cell_pins : List (List ℕ)
cell_pins = codes "/in_0" ∷ codes "/in_1" ∷ codes "/in_2" ∷ codes "/in_3" ∷ codes "/out" ∷ codes "/cout" ∷ []

-- the names of the wires of the eight cells of a logic tile, in order: the last is the carry out of cell 7
unfoldable pub cell_names : List (List ℕ)
cell_names = flat_map (λ i. map (cell_name i) cell_pins) (range_with_len 0 8)

-- the names of the wires that all cells of a logic tile share, in order
unfoldable pub control_names : List (List ℕ)
control_names = codes "lutff_global/clk" ∷ codes "lutff_global/cen" ∷ codes "lutff_global/s_r" ∷ codes "carry_in_mux" ∷ []

-- the carry into a tile of a kind, if it is a logic tile
abbrev pub carry_in_line : Option TileKind → TileAt → List (List ℕ)
carry_in_line None t = []
carry_in_line (Some Io) t = []
carry_in_line (Some Logic) t = name_line t (codes "carry_in") ∷ []

-- the place to the north, whose tile the carry out of cell 7 enters
abbrev pub above : TileAt → TileAt
above t = record { x = t.x; y = t.y + 1 }

-- The wires of a tile of a kind, from its first: those of its pads or cells and the like, and then its tracks. The carry out of
-- cell 7 is also the carry into the tile to the north, where that is a logic tile.
abbrev pub own_wire_lines : ℕ → ℕ → TileKind → TileAt → ℕ → List (List ℕ)
own_wire_lines w h Io t first = named_wires t first io_names ++ named_wires t (first + 7) track_names
own_wire_lines w h Logic t first =
    named_wires t first cell_names ++ carry_in_line (kind_at w h (above t)) (above t)
    ++ named_wires t (first + 48) control_names ++ named_wires t (first + 52) track_names

abbrev pub tile_wire_lines : ℕ → ℕ → Tile → List (List ℕ)
tile_wire_lines w h t = own_wire_lines w h t.kind t.at (first_wire w h t.at)

-- the sections of all wires: the globals, and those of the tiles in tile order
abbrev pub all_wire_lines : ℕ → ℕ → List Tile → List (List ℕ)
all_wire_lines w h ts = all_global_lines ts ++ flat_map (tile_wire_lines w h) ts
