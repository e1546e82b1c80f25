-- The form of the bits of a chip: as many rows and columns as each tile has, the kinds of the tiles, and words of its block RAMs.
use Rattle.std.specs.Prelude.{◌≡◌, ℕ, ◌&&◌, Bool, true, false, Option, None, Some, List, [], ◌∷◌, length, map, replicate, All, is_some, slice_get, slice_index_or, nat_lt}
use Rattle.std.specs.List.{AllByRecursion, IsDistinct}
use Rattle.std.specs.Map.{keys_of}
use Rattle.std.specs.Option.{option_map_or, option_and_then}
use Rattle.ice_base.specs.declared.number.TileAt.{TileAt}
use Rattle.ice_base.specs.declared.bit.BitAt.{BitAt}
use Rattle.ice_chip.specs.Database.{Parts, columns, same_tile}
use Rattle.ice_chip.specs.Functions.{same_kind}
use Rattle.ice_chip.specs.Lookups.{kind_at}
use Rattle.ice_chip.specs.declared.rows.TileLine.{TileLine}
use Rattle.ice_chip.specs.declared.rows.TileKind.{TileKind}
use Rattle.ice_chip_rams.specs.Sites.{site_at}
use Rattle.ice_bits.specs.TilePlaces.{place_in}
use Rattle.ice_bits.specs.Configuration.{Configuration, rows_at}

-- ---- the kinds of tiles
-- the kind of the tile here; none where no tile stands
abbrev pub kind_in : Configuration → TileAt → Option TileKind
kind_in k t = option_and_then (λ i. slice_get k.kinds i) (place_in t k.tiles)

-- whether a tile is known and of this kind
abbrev pub is_of_kind : TileKind → Option TileKind → Bool
is_of_kind kind None = false
is_of_kind kind (Some known) = same_kind known kind

-- ---- the form of the bits of a chip
-- sixteen rows of so many bits
pub record IsGrid (width : ℕ) (rows : List (List Bool)) : Type 0 where
  pub tall : length rows ≡ 16
  pub wide : All (λ row. length row ≡ width) rows

-- the tiles of a chip in order, each with as many rows and columns as its kind has
abbrev pub AreGrids : List (TileAt × TileLine) → List (TileAt × List (List Bool)) → Type 0
AreGrids [] [] = Unit {0}
AreGrids [] (grid ∷ grids) = ⊥
AreGrids (tile ∷ tiles) [] = ⊥
AreGrids (tile ∷ tiles) (grid ∷ grids) = (grid.0 ≡ tile.0) × IsGrid (columns tile.1.kind) grid.1 × AreGrids tiles grids

abbrev pub kind_of_tile : TileAt × TileLine → TileKind
kind_of_tile tile = tile.1.kind

-- 256 words of sixteen bits
pub record AreWords (words : List (List Bool)) : Type 0 where
  pub many : length words ≡ 256
  pub wide : All (λ word. length word ≡ 16) words

-- the chip has a block RAM there, which holds such words
pub record IsContent (parts : Parts) (content : TileAt × List (List Bool)) : Type 0 where
  pub site : is_some (site_at parts content.0) ≡ true
  pub words : AreWords content.1

-- the contents of block RAMs of the chip, each once
pub record AreContents (parts : Parts) (contents : List (TileAt × List (List Bool))) : Type 0 where
  pub each : AllByRecursion (IsContent parts) contents
  pub once : IsDistinct same_tile (keys_of contents)

-- the bits are bits of this chip
pub record IsOf (parts : Parts) (k : Configuration) : Type 0 where
  pub grids : AreGrids parts.tiles k.tiles
  pub kinds : k.kinds ≡ map kind_of_tile parts.tiles
  pub contents : AreContents parts k.contents

-- a tile's bits, all 0
abbrev pub blank_rows : ℕ → List (List Bool)
blank_rows width = replicate 16 (replicate width false)

abbrev pub blank_tile : TileAt × TileLine → TileAt × List (List Bool)
blank_tile tile = (tile.0, blank_rows (columns tile.1.kind))

-- the bits of a chip, all 0, no extra bits, and no contents
abbrev pub blank : Parts → Configuration
blank parts = record { tiles = map blank_tile parts.tiles; kinds = map kind_of_tile parts.tiles; extras = []; contents = [] }

-- the place is one of the tile's
abbrev pub is_in : List (List Bool) → BitAt → Bool
is_in rows b = nat_lt b.row (length rows) && nat_lt b.col (length (slice_index_or rows b.row []))

-- the configuration has a bit at the place of a tile
abbrev pub is_there : Configuration → TileAt → BitAt → Bool
is_there k t b = option_map_or (λ rows. is_in rows b) (rows_at k t) false

-- a chip has a bit at the place of a tile
abbrev pub is_bit_of : Parts → TileAt → BitAt → Bool
is_bit_of parts t b = option_map_or (λ kind. nat_lt b.row 16 && nat_lt b.col (columns kind)) (kind_at parts t) false
