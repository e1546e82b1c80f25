-- Logic tiles among tiles with their kinds.
use Rattle.std.proofs.Common.{◌≡◌, Bool, true, false, cond, List, [], ◌∷◌, refl, ap, map, filter}
use Rattle.ice_base.specs.declared.number.TileAt.{TileAt}
use Rattle.ice_chip.specs.Database.{Parts}
use Rattle.ice_chip.specs.Listings.{tile_of}
use Rattle.ice_chip.specs.declared.rows.TileLine.{TileLine}
use Rattle.ice_chip.specs.declared.tile.Tile.{Tile}
use Rattle.ice_decode.specs.Cells.{is_logic, is_logic_tile, logic_tiles}
use Rattle.ice_decode.specs.Tiles.{logic_among}

logic_in : (tiles : List (TileAt × TileLine)) → logic_among (map tile_of tiles) ≡ map (λ (tile : TileAt × TileLine). tile.0) (filter is_logic_tile tiles)
logic_in [] = refl
logic_in (t ∷ tiles) = by (is_logic t.1.kind) (logic_in tiles)
  where
    by : (b : Bool) → logic_among (map tile_of tiles) ≡ map (λ (tile : TileAt × TileLine). tile.0) (filter is_logic_tile tiles)
        → map (λ (tile : Tile). tile.at) (cond b (tile_of t ∷ filter (λ (tile : Tile). is_logic tile.kind) (map tile_of tiles)) (filter (λ (tile : Tile). is_logic tile.kind) (map tile_of tiles)))
        ≡ map (λ (tile : TileAt × TileLine). tile.0) (cond b (t ∷ filter is_logic_tile tiles) (filter is_logic_tile tiles))
    by true e = ap (λ xs. t.0 ∷ xs) e
    by false e = e

pub logic_same : (parts : Parts) → logic_among (map tile_of parts.tiles) ≡ logic_tiles parts
logic_same parts = logic_in parts.tiles
