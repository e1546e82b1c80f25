-- Tiles that are found are in the list of tiles.
use Rattle.std.proofs.Common.{◌≡◌, ◌<◌, Some, sym, subst, arith}
use Rattle.std.specs.Map.{keys_of}
use Rattle.std.proofs.lemmas.Map.Entries.{lookup_from_place}
use Rattle.ice_base.specs.declared.number.TileAt.{TileAt}
use Rattle.ice_chip.specs.Database.{Parts, same_tile}
use Rattle.ice_chip.specs.IsRead.{IsChip}
use Rattle.ice_chip.specs.Lookups.{kind_at}
use Rattle.ice_chip.specs.Within.{IsPlace}
use Rattle.ice_chip.specs.declared.rows.TileLine.{TileLine}
use Rattle.ice_chip.specs.declared.rows.TileKind.{TileKind}
use Rattle.ice_base_values.specs.Order.{Has}
use Rattle.ice_chip_laws.specs.Tiles.{HasTiles}
use Rattle.ice_chip_laws.proofs.KnownTiles.{known_kind, kind_known}
use Rattle.ice_base_values.proofs.Members.{lookup_Has, Has_lookup, Has_map, Has_all}
use Rattle.ice_base.proofs.Keys.{tile_same, tile_self, tiles_equal}

listed : (parts : Parts) (t : TileAt) (kind : TileKind) → kind_at parts t ≡ Some kind → (known : TileLine) × Has parts.tiles (t, known) × (known.kind ≡ kind)
listed parts t kind e =
    let tile = known_kind parts t kind e in
    let found = lookup_Has (same_tile t) parts.tiles tile.0 tile.1 in
    (tile.0, subst (λ place. Has parts.tiles (place, tile.0)) (sym (tile_same t found.0 found.2)) found.1, tile.2)

stands : (parts : Parts) (t : TileAt) (known : TileLine) → Has parts.tiles (t, known) → (kind : TileKind) × (kind_at parts t ≡ Some kind)
stands parts t known has =
    let found = Has_lookup (same_tile t) parts.tiles (t, known) has (tile_self t) in
    (found.0.kind, kind_known parts t found.0 found.1)

kinds : (parts : Parts) → IsChip parts → (t : TileAt) (known : TileLine) → Has parts.tiles (t, known) → kind_at parts t ≡ Some known.kind
kinds parts chip t known has = kind_known parts t known (lookup_from_place tiles_equal parts.tiles has.0 t known chip.read.tiles_once has.1)

within : (parts : Parts) → IsChip parts → (t : TileAt) (kind : TileKind) → kind_at parts t ≡ Some kind → IsPlace parts.width parts.height t
within parts chip t kind e =
    let found = listed parts t kind e in
    Has_all (IsPlace parts.width parts.height) (keys_of parts.tiles) t chip.read.tile_places (Has_map (λ (row : TileAt × TileLine). row.0) parts.tiles (t, found.0) found.1)

near : (parts : Parts) → IsChip parts → (t : TileAt) (kind : TileKind) → kind_at parts t ≡ Some kind → (t.x < 256) × (t.y < 256)
near parts chip t kind e =
    let narrow = chip.read.narrow in
    let low = chip.read.low in
    let place = within parts chip t kind e in
    let x = place.x in
    let y = place.y in
    (omega arith, omega arith)

pub tiles_are : (parts : Parts) → IsChip parts → HasTiles parts
tiles_are parts chip = record {
  listed = listed parts;
  stands = stands parts;
  kinds = kinds parts chip;
  within = within parts chip;
  near = near parts chip;
}
