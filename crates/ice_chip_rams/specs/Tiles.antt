-- Sites among tiles with their kinds.
use Rattle.std.specs.Prelude.{Option, None, Some, List, [], ◌∷◌, filter_map}
use Rattle.ice_chip.specs.Database.{Parts}
use Rattle.ice_chip.specs.declared.tile.Tile.{Tile}
use Rattle.ice_chip_rams.specs.Sites.{site_at}
use Rattle.ice_chip_rams.specs.declared.ram_site.RamSite.{RamSite}

abbrev pub site_of : Parts → Tile → Option RamSite
site_of parts tile = site_at parts tile.at

-- the sites whose lower tiles are among these
abbrev pub sites_among : Parts → List Tile → List RamSite
sites_among parts tiles = filter_map (site_of parts) tiles

-- the site that there is, or none
abbrev pub found : Option RamSite → List RamSite
found None = []
found (Some site) = site ∷ []
