-- What is known of the tile at a place.
use Rattle.std.proofs.Common.{◌≡◌, true, Option, None, Some, option_map, refl, sym, ap, true≢false}
use Rattle.std.specs.Prelude.{is_some}
use Rattle.std.proofs.lemmas.Option.{none-some, same_Some}
use Rattle.ice_base.specs.declared.number.TileAt.{TileAt}
use Rattle.ice_chip.specs.Database.{Parts, tile_known}
use Rattle.ice_chip.specs.Lookups.{kind_at}
use Rattle.ice_chip.specs.declared.rows.TileLine.{TileLine}
use Rattle.ice_chip.specs.declared.rows.TileKind.{TileKind}

pub some_known : {X : Type 0} (o : Option X) → is_some o ≡ true → (x : X) × (o ≡ Some x)
some_known None e = absurd (true≢false (sym e))
some_known (Some x) e = (x, refl)

-- the tile of a kind
pub known_kind : (parts : Parts) (t : TileAt) (kind : TileKind) → kind_at parts t ≡ Some kind → (known : TileLine) × (tile_known parts.tiles t ≡ Some known) × (known.kind ≡ kind)
known_kind parts t kind e = by (tile_known parts.tiles t) refl e
  where
    by : (o : Option TileLine) → tile_known parts.tiles t ≡ o → option_map (λ (known : TileLine). known.kind) o ≡ Some kind → (known : TileLine) × (tile_known parts.tiles t ≡ Some known) × (known.kind ≡ kind)
    by None is e = absurd (none-some kind e)
    by (Some known) is e = (known, is, same_Some known.kind kind e)

-- the kind of a tile
pub kind_known : (parts : Parts) (t : TileAt) (known : TileLine) → tile_known parts.tiles t ≡ Some known → kind_at parts t ≡ Some known.kind
kind_known parts t known e = ap (option_map (λ (known : TileLine). known.kind)) e
