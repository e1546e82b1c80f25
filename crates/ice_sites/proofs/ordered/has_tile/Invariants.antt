use Rattle.std.proofs.Common.{◌≡◌, ◌==◌, drop, map}
use Rattle.std.specs.List.{list_any}
use Rattle.ice_chip.specs.Listings.{tile_of}
use Rattle.ice_sites.proofs.ordered.has_tile.Given as goal

abbrev pub invariant-loop-tile : goal.invariant-loop-tile
invariant-loop-tile l = list_any (λ t. l.x == t.at.x) (map tile_of l.chip.tiles) ≡ list_any (λ t. l.x == t.at.x) (drop l.tile-index l.tile-items)
