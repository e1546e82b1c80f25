-- Sites among the tiles of a chip.
use Rattle.std.proofs.Common.{◌≡◌, ℕ, ◌+◌, ◌<◌, Option, None, Some, List, [], ◌∷◌, ◌++◌, length, map, get_or, drop, refl, sym, ap, ◌∙◌, append_assoc}
use Rattle.std.specs.List.{filter_map, cons_option}
use Rattle.std.proofs.lemmas.List.{at_drop_more}
use Rattle.ice_base.specs.declared.number.TileAt.{TileAt}
use Rattle.ice_chip.specs.Database.{Parts}
use Rattle.ice_chip.specs.Listings.{tile_of}
use Rattle.ice_chip.specs.declared.rows.TileLine.{TileLine}
use Rattle.ice_chip.specs.declared.tile.Tile.{Tile}
use Rattle.ice_chip_rams.specs.Sites.{site_at, site_of_tile}
use Rattle.ice_chip_rams.specs.Tiles.{sites_among, found}
use Rattle.ice_chip_rams.specs.declared.ram_site.RamSite.{RamSite}

pub among_all : (parts : Parts) (tiles : List (TileAt × TileLine)) → sites_among parts (map tile_of tiles) ≡ filter_map (site_of_tile parts) tiles
among_all parts [] = refl
among_all parts (tile ∷ tiles) = ap (cons_option (site_at parts tile.0)) (among_all parts tiles)

in_front : (site : Option RamSite) (rest : List RamSite) → cons_option site rest ≡ found site ++ rest
in_front None rest = refl
in_front (Some site) rest = refl

-- one more tile, with the site that it has
pub among_more : (parts : Parts) (tiles : List Tile) (i : ℕ) (d : Tile) (site : Option RamSite) (all old new : List RamSite) → i < length tiles → all ≡ old ++ sites_among parts (drop i tiles)
    → site ≡ site_at parts (get_or tiles i d).at → new ≡ old ++ found site → all ≡ new ++ sites_among parts (drop (i + 1) tiles)
among_more parts tiles i d site all old new lt held is added =
    held
    ∙ ap (λ left. old ++ left) (at_drop_more (λ (ts : List Tile). sites_among parts ts) tiles i d lt)
    ∙ ap (λ s. old ++ cons_option s (sites_among parts (drop (i + 1) tiles))) (sym is)
    ∙ ap (λ left. old ++ left) (in_front site (sites_among parts (drop (i + 1) tiles)))
    ∙ sym (append_assoc old (found site) (sites_among parts (drop (i + 1) tiles)))
    ∙ ap (λ sites. sites ++ sites_among parts (drop (i + 1) tiles)) (sym added)
