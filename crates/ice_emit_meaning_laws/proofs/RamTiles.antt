-- The tiles of a block RAM that is in use.
use Rattle.std.proofs.Common.{◌≡◌, ℕ, ◌+◌, ◌-◌, Bool, true, false, cond, Option, None, Some, sym, ap, ◌∙◌, arith, lt-ltb}
use Rattle.std.specs.Prelude.{nat_lt}
use Rattle.std.specs.Option.{option_map_or, option_and_then}
use Rattle.ice_base.specs.declared.number.TileAt.{TileAt}
use Rattle.ice_base_values.specs.Order.{At}
use Rattle.ice_chip.specs.Database.{Parts}
use Rattle.ice_chip.specs.RamNames.{is_lower}
use Rattle.ice_chip.specs.declared.rows.TileKind.{TileKind}
use Rattle.ice_chip.specs.declared.rows.TileKind.TheVariants.{RamTop}
use Rattle.ice_chip_rams.specs.Sites.{ram_tile, site_at, site_of_tile, sites}
use Rattle.ice_chip_rams.specs.declared.ram_site.RamSite.{RamSite}
use Rattle.ice_chip_sockets.proofs.SiteFacts.{next_tile, site_told}
use Rattle.ice_bits.specs.Configuration.{Bits}
use Rattle.ice_decode.specs.Rams.{is_on, is_in_use, lower_tile}
use Rattle.ice_emit_rows_laws.proofs.Mapped.{Has_mapped_by}

-- below an upper tile stands its lower one
below : (t : TileAt) → lower_tile (next_tile t) (Some RamTop) ≡ Some t
below t =
    let here : nat_lt 0 (t.y + 1) ≡ true = lt-ltb 0 (t.y + 1) (omega arith) in
    let back : t.y + 1 - 1 ≡ t.y = omega arith in
    ap (λ b. cond b (Some (record { x = t.x; y = t.y + 1 - 1 })) None) here ∙ ap (λ y. Some (record { x = t.x; y = y })) back

-- a block RAM that is in use is so by each of its tiles
pub used : (parts : Parts) (bits : Bits) (j : ℕ) (s : RamSite) (n : ℕ) → At (sites parts) j s → is_on parts bits s ≡ true → is_in_use parts bits (ram_tile s n) ≡ true
used parts bits j s n at on =
    let tile = Has_mapped_by (site_of_tile parts) parts.tiles s (j, at) in
    let told = site_told parts tile.0.0 s tile.2 in
    let found : used_by (Some s.lower) ≡ true = ap (λ (o : Option RamSite). option_map_or (is_on parts bits) o false) (ap (site_at parts) (sym told.0) ∙ tile.2) ∙ on in
    by (is_lower n) found
    (ap (λ (k : Option TileKind). used_by (lower_tile s.lower k)) told.1.lower)
    (ap (λ (k : Option TileKind). used_by (lower_tile s.upper k)) told.1.upper ∙ ap (λ (t : TileAt). used_by (lower_tile t (Some RamTop))) told.1.higher ∙ ap used_by (below s.lower))
  where
    -- the tile, where there is one, is the lower tile of one in use
    used_by : Option TileAt → Bool
    used_by o = option_map_or (is_on parts bits) (option_and_then (site_at parts) o) false

    by : (b : Bool) → used_by (Some s.lower) ≡ true → is_in_use parts bits s.lower ≡ used_by (Some s.lower) → is_in_use parts bits s.upper ≡ used_by (Some s.lower) → is_in_use parts bits (cond b s.lower s.upper) ≡ true
    by true found lower upper = lower ∙ found
    by false found lower upper = upper ∙ found
