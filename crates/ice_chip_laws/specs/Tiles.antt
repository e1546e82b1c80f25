-- Tiles and their kinds.
use Rattle.std.specs.Prelude.{◌≡◌, ◌<◌, Some}
use Rattle.ice_base.specs.declared.number.TileAt.{TileAt}
use Rattle.ice_chip.specs.Database.{Parts}
use Rattle.ice_chip.specs.Lookups.{kind_at}
use Rattle.ice_chip.specs.Within.{IsPlace}
use Rattle.ice_chip.specs.declared.rows.TileLine.{TileLine}
use Rattle.ice_chip.specs.declared.rows.TileKind.{TileKind}
use Rattle.ice_base_values.specs.Order.{Has}

-- a tile stands at the place
abbrev pub HasTileAt : Parts → TileAt → Type 0
HasTileAt parts t = (kind : TileKind) × (kind_at parts t ≡ Some kind)

pub record HasTiles (parts : Parts) : Type 0 where
  -- a tile that is found is in the list of tiles, with its kind
  pub listed : (t : TileAt) (kind : TileKind) → kind_at parts t ≡ Some kind → (known : TileLine) × Has parts.tiles (t, known) × (known.kind ≡ kind)
  -- and at each place of the list a tile stands
  pub stands : (t : TileAt) (known : TileLine) → Has parts.tiles (t, known) → HasTileAt parts t
  -- which is found with the kind that it has there
  pub kinds : (t : TileAt) (known : TileLine) → Has parts.tiles (t, known) → kind_at parts t ≡ Some known.kind
  -- a tile stands in one of the columns and rows of the database
  pub within : (t : TileAt) (kind : TileKind) → kind_at parts t ≡ Some kind → IsPlace parts.width parts.height t
  -- of which there are at most 256
  pub near : (t : TileAt) (kind : TileKind) → kind_at parts t ≡ Some kind → (t.x < 256) × (t.y < 256)
