-- The lists of what keeps levels in a chip.
use Rattle.std.proofs.Common.{◌≡◌, ℕ, ◌+◌, ◌*◌, Bool, true, false, cond, List, [], ◌∷◌, ◌++◌, length, map, filter, refl, ap, ◌∙◌, arith, length-append}
use Rattle.std.specs.List.{flat_map}
use Rattle.std.proofs.lemmas.List.{length-map}
use Rattle.ice_base.specs.declared.number.TileAt.{TileAt}
use Rattle.ice_chip.specs.Database.{Parts}
use Rattle.ice_chip.specs.Lookups.{is_io_kind}
use Rattle.ice_chip.specs.Listings.{tile_of}
use Rattle.ice_chip.specs.declared.rows.TileLine.{TileLine}
use Rattle.ice_chip.specs.declared.rows.Pad.{Pad}
use Rattle.ice_chip.specs.declared.tile.Tile.{Tile}
use Rattle.ice_decode.specs.Cells.{cells}
use Rattle.ice_decode.specs.Pads.{pads_in, is_io_tile, io_tiles, pads, cell_store, pad_stores, stores}
use Rattle.ice_sim.specs.Layouts.{cell_stores}

-- ---- tiles
-- the places of the IO tiles among these
abbrev pub io_among : List Tile → List TileAt
io_among tiles = map (λ (tile : Tile). tile.at) (filter (λ (tile : Tile). is_io_kind tile.kind) tiles)

io_in : (tiles : List (TileAt × TileLine)) → io_among (map tile_of tiles) ≡ map (λ (tile : TileAt × TileLine). tile.0) (filter is_io_tile tiles)
io_in [] = refl
io_in (t ∷ tiles) = by (is_io_kind t.1.kind) (io_in tiles)
  where
    by : (b : Bool) → io_among (map tile_of tiles) ≡ map (λ (tile : TileAt × TileLine). tile.0) (filter is_io_tile tiles)
        → map (λ (tile : Tile). tile.at) (cond b (tile_of t ∷ filter (λ (tile : Tile). is_io_kind tile.kind) (map tile_of tiles)) (filter (λ (tile : Tile). is_io_kind tile.kind) (map tile_of tiles)))
        ≡ map (λ (tile : TileAt × TileLine). tile.0) (cond b (t ∷ filter is_io_tile tiles) (filter is_io_tile tiles))
    by true e = ap (λ xs. t.0 ∷ xs) e
    by false e = e

pub io_same : (parts : Parts) → io_among (map tile_of parts.tiles) ≡ io_tiles parts
io_same parts = io_in parts.tiles

-- ---- pads
pads_flat : (tiles : List (TileAt × TileLine)) → flat_map pads_in (map (λ (tile : TileAt × TileLine). tile.0) tiles) ≡ flat_map (λ (tile : TileAt × TileLine). pads_in tile.0) tiles
pads_flat [] = refl
pads_flat (tile ∷ tiles) = ap (λ ps. pads_in tile.0 ++ ps) (pads_flat tiles)

pub pads_same : (parts : Parts) → flat_map pads_in (io_tiles parts) ≡ pads parts
pads_same parts = pads_flat (filter is_io_tile parts.tiles)

-- ---- stores
cells_flat : (cells : List (TileAt × ℕ)) → flat_map cell_stores cells ≡ map cell_store cells
cells_flat [] = refl
cells_flat (c ∷ cells) = ap (λ ss. cell_store c ∷ ss) (cells_flat cells)

pub stores_flat : (parts : Parts) → flat_map cell_stores (cells parts) ++ flat_map pad_stores (pads parts) ≡ stores parts
stores_flat parts = ap (λ ss. ss ++ flat_map pad_stores (pads parts)) (cells_flat (cells parts))

pub cells_long : (cells : List (TileAt × ℕ)) → length (flat_map cell_stores cells) ≡ length cells
cells_long cells = ap length (cells_flat cells) ∙ length-map cells cell_store

pub stores_long : (parts : Parts) → length (cells parts) + 2 * length (pads parts) ≡ length (stores parts)
stores_long parts =
    let both = length-append (map cell_store (cells parts)) (flat_map pad_stores (pads parts)) in
    let front = length-map (cells parts) cell_store in
    let back = two (pads parts) in
    omega arith
  where
    two : (pads : List Pad) → length (flat_map pad_stores pads) ≡ 2 * length pads
    two [] = refl
    two (pad ∷ pads) = let rest = two pads in omega arith
