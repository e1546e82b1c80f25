use Rattle.std.proofs.Common.{◌≡◌, ◌++◌, drop}
use Rattle.ice_chip_rams.specs.Tiles.{sites_among}
use Rattle.ice_chip_rams.proofs.site.sites.Given as goal

abbrev pub invariant-loop-tile : goal.invariant-loop-tile
invariant-loop-tile l = sites_among l.chip l.tile-items ≡ l.sites.items ++ sites_among l.chip (drop l.tile-index l.tile-items)
