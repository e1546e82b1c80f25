-- The tiles of the sample chip in tile order, and the numbers of their wires.
use Rattle.std.specs.Prelude.{ℕ, ◌+◌, ◌*◌, ◌/◌, ◌%◌, ◌<◌, Option, Some, None, List, [], ◌∷◌}
use Rattle.std.specs.List.{flat_map, range_with_len, sum_by}
use Rattle.ice_base.specs.declared.number.TileAt.{TileAt}
use Rattle.ice_sample.specs.declared.grid.TileKind.{TileKind}
use Rattle.ice_sample.specs.declared.grid.Tile.{Tile}
use Rattle.ice_sample.specs.Kinds.{kind_at, wires_of}

-- the place of a number: places are numbered from 0, row by row from below, and from west to east in a row
abbrev pub place : ℕ → ℕ → TileAt
place w n = record { x = n % w; y = n / w }

-- the number of a place
abbrev pub place_number : ℕ → TileAt → ℕ
place_number w t = t.y * w + t.x

-- the tile at a place, if it has a kind
abbrev pub tile_list : TileAt → Option TileKind → List Tile
tile_list t None = []
tile_list t (Some kind) = record { at = t; kind = kind } ∷ []

-- the tiles at places with numbers below n, in tile order
unfoldable pub tiles_before : ℕ → ℕ → ℕ → List Tile
tiles_before w h n = flat_map (λ m. tile_list (place w m) (kind_at w h (place w m))) (range_with_len 0 n)

-- the tiles in tile order
abbrev pub tiles_of : ℕ → ℕ → List Tile
tiles_of w h = tiles_before w h (w * h)

-- the wires before the place of a number: the eight globals, and the wires of the tiles before it
unfoldable pub wires_before : ℕ → ℕ → ℕ → ℕ
wires_before w h n = 8 + sum_by (λ m. wires_of (kind_at w h (place w m))) (range_with_len 0 n)

-- the first wire of the tile at a place
abbrev pub first_wire : ℕ → ℕ → TileAt → ℕ
first_wire w h t = wires_before w h (place_number w t)

-- how many wires the chip has
abbrev pub wire_count : ℕ → ℕ → ℕ
wire_count w h = wires_before w h (w * h)

-- the tile is within a chip of this width and height
pub record IsWithin (w h : ℕ) (t : Tile) : Type 0 where
  pub column : t.at.x < w
  pub row : t.at.y < h
