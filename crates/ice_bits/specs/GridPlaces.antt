-- Where the bits of tiles are found.
use Rattle.std.specs.Prelude.{◌≡◌}
use Rattle.std.specs.Map.{lookup}
use Rattle.ice_base.specs.declared.number.TileAt.{TileAt}
use Rattle.ice_chip.specs.Database.{same_tile}
use Rattle.ice_bits.specs.TilePlaces.{place_in}
use Rattle.ice_bits.specs.declared.grids.Grids.TheInside.{Inside}

-- the map tells where the bits of each tile stand
pub record IsIndexed (c : Inside) : Type 0 where
  pub each : (t : TileAt) → lookup (same_tile t) c.places.entries ≡ place_in t c.tiles.items
