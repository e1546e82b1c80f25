-- Tiles that serve others have what serves them.
use Rattle.std.proofs.Common.{◌≡◌, true, Option, None, Some, List, refl, sym, ap, subst, ◌∙◌, true≢false}
use Rattle.std.specs.Prelude.{ℕ, ◌<◌, map, filter, nat_eq}
use Rattle.ice_base.specs.declared.number.TileAt.{TileAt}
use Rattle.ice_chip.specs.Database.{Parts, FunctionRow, same_tile, same_pad, tile_known}
use Rattle.ice_chip.specs.FirstLacking.{LacksFunctionIsFirst}
use Rattle.ice_chip.specs.IsRead.{IsChip}
use Rattle.ice_chip.specs.LacksFunction.{has_column_buffers}
use Rattle.ice_chip.specs.Lookups.{kind_at, colbuf_of, ieren_of, global_of, global_tile, is_io_kind, is_io, enable_counts, holds_buffers, buffer_counts, served_tile}
use Rattle.ice_chip.specs.Within.{ArePads}
use Rattle.ice_chip.specs.declared.rows.TileLine.{TileLine}
use Rattle.ice_chip.specs.declared.rows.Pad.{Pad}
use Rattle.ice_chip.specs.declared.rows.TileKind.{TileKind}
use Rattle.ice_chip.specs.declared.rows.TileKind.TheVariants.{Io, Logic, RamBottom, RamTop}
use Rattle.ice_base_values.specs.Order.{Has}
use Rattle.ice_chip_laws.specs.Served.{HoldsBuffers, HasServers}
use Rattle.ice_chip_laws.proofs.FunctionLaws.{held_buffers, source_buffers}
use Rattle.ice_chip_laws.proofs.KnownTiles.{kind_known}
use Rattle.ice_base_values.proofs.Members.{map_Has, filter_Has, lookup_Has, Has_all}
use Rattle.ice_base.proofs.Keys.{nat_same}

-- a tile stands where column buffers are held
held : (functions : List FunctionRow) (o : Option TileLine) → holds_buffers functions o ≡ true → (known : TileLine) × (o ≡ Some known) × (has_column_buffers known.kind functions ≡ true)
held functions None e = absurd (true≢false (sym e))
held functions (Some known) e = (known, refl, e)

-- and an IO tile where an enable counts
io_is : (kind : TileKind) → is_io_kind kind ≡ true → kind ≡ Io
io_is Io e = refl
io_is Logic e = absurd (true≢false (sym e))
io_is RamBottom e = absurd (true≢false (sym e))
io_is RamTop e = absurd (true≢false (sym e))

io_known : (o : Option TileLine) → is_io o ≡ true → (known : TileLine) × (o ≡ Some known) × (known.kind ≡ Io)
io_known None e = absurd (true≢false (sym e))
io_known (Some known) e = (known, refl, io_is known.kind e)

serving : (parts : Parts) → IsChip parts → LacksFunctionIsFirst → (t s : TileAt) → colbuf_of parts t ≡ Some s → HoldsBuffers parts s
serving parts chip first t s e =
    let counted = filter (buffer_counts parts.tiles parts.functions) parts.colbuf in
    let found = lookup_Has (same_tile t) (map served_tile counted) s e in
    let row = map_Has served_tile counted (found.0, s) found.1 in
    let kept = filter_Has (buffer_counts parts.tiles parts.functions) parts.colbuf row.0 row.1 in
    let source : row.0.0 ≡ s = ap (λ (p : TileAt × TileAt). p.1) row.2 in
    let tile = held parts.functions (tile_known parts.tiles row.0.0) kept.1 in
    let at : kind_at parts s ≡ Some tile.0.kind = ap (kind_at parts) (sym source) ∙ kind_known parts row.0.0 tile.0 tile.1 in
    (tile.0.kind, at, held_buffers parts chip first s tile.0.kind at tile.2)

enabling : (parts : Parts) → (p q : Pad) → ieren_of parts p ≡ Some q → kind_at parts q.tile ≡ Some Io
enabling parts p q e =
    let found = lookup_Has (same_pad p) (filter (enable_counts parts.tiles) parts.ieren) q e in
    let kept = filter_Has (enable_counts parts.tiles) parts.ieren (found.0, q) found.1 in
    let tile = io_known (tile_known parts.tiles q.tile) kept.1 in
    kind_known parts q.tile tile.0 tile.1 ∙ ap Some tile.2

enable_pad : (parts : Parts) → IsChip parts → (p q : Pad) → ieren_of parts p ≡ Some q → q.pio < 2
enable_pad parts chip p q e =
    let found = lookup_Has (same_pad p) (filter (enable_counts parts.tiles) parts.ieren) q e in
    let kept = filter_Has (enable_counts parts.tiles) parts.ieren (found.0, q) found.1 in
    (Has_all (ArePads parts.width parts.height) parts.ieren (found.0, q) chip.read.enables kept.0).enable.pio

feeding : (parts : Parts) (n : ℕ) (t : TileAt) → global_of parts n ≡ Some t → Has parts.gbufin (t, n)
feeding parts n t e =
    let found = lookup_Has (nat_eq n) (map global_tile parts.gbufin) t e in
    let row = map_Has global_tile parts.gbufin (found.0, t) found.1 in
    let place : row.0.0 ≡ t = ap (λ (p : ℕ × TileAt). p.1) row.2 in
    let number : row.0.1 ≡ n = ap (λ (p : ℕ × TileAt). p.0) row.2 ∙ sym (nat_same n found.0 found.2) in
    subst (Has parts.gbufin) (λ i. (place i, number i)) row.1

pub servers_are : (parts : Parts) → IsChip parts → LacksFunctionIsFirst → HasServers parts
servers_are parts chip first = record {
  buffers = serving parts chip first;
  sources = source_buffers parts chip first;
  enables = enabling parts;
  pads = enable_pad parts chip;
  globals = feeding parts;
}
