-- A tile stands at each of the two places of a site.
use Rattle.std.proofs.Common.{◌≡◌, ◌+◌, Bool, true, false, is_some, Option, None, Some, refl, sym, true≢false, ap, ◌∙◌}
use Rattle.std.specs.Prelude.{◌&&◌, nat_lt, if◌then◌else◌}
use Rattle.std.specs.Option.{option_and_then}
use Rattle.std.proofs.lemmas.Bool.{and_parts}
use Rattle.ice_base.specs.declared.number.TileAt.{TileAt}
use Rattle.ice_chip.specs.Database.{Parts}
use Rattle.ice_chip.specs.Lookups.{kind_at}
use Rattle.ice_chip.specs.declared.rows.TileKind.{TileKind}
use Rattle.ice_chip.specs.declared.rows.TileKind.TheVariants.{RamBottom, RamTop}
use Rattle.ice_chip_rams.specs.Sites.{has_ram_functions, is_known, are_wired, is_site, if_site, site_at}
use Rattle.ice_chip_rams.specs.declared.ram_site.RamSite.{RamSite}

known_there : (kind : TileKind) (o : Option TileKind) → is_known kind o ≡ true → (known : TileKind) × (o ≡ Some known)
known_there kind None e = absurd (true≢false (sym e))
known_there kind (Some known) e = (known, refl)

lower_known : (parts : Parts) (s : RamSite) → is_site parts s ≡ true → (kind : TileKind) × (kind_at parts s.lower ≡ Some kind)
lower_known parts s e =
    let both = and_parts (is_known RamBottom (kind_at parts s.lower) && is_known RamTop (kind_at parts s.upper)) (are_wired parts s) e in
    let kinds = and_parts (is_known RamBottom (kind_at parts s.lower)) (is_known RamTop (kind_at parts s.upper)) both.0 in
    known_there RamBottom (kind_at parts s.lower) kinds.0

pub site_known : (parts : Parts) (t : TileAt) → is_some (site_at parts t) ≡ true → (kind : TileKind) × (kind_at parts t ≡ Some kind)
site_known parts t e = by (has_ram_functions parts) (nat_lt t.y 65535) e
  where
    of : (s : RamSite) (b : Bool) → is_site parts s ≡ b → s.lower ≡ t → is_some (if◌then◌else◌ {A = Option RamSite} b (Some s) None) ≡ true → (kind : TileKind) × (kind_at parts t ≡ Some kind)
    of s true is lower f = let found = lower_known parts s is in (found.0, ap (kind_at parts) (sym lower) ∙ found.1)
    of s false is lower f = absurd (true≢false (sym f))

    by : (functions low : Bool)
        → is_some (if◌then◌else◌ {A = Option RamSite} functions (option_and_then (if_site parts) (if◌then◌else◌ {A = Option RamSite} low (Some (record { lower = t; upper = record { x = t.x; y = t.y + 1 } })) None)) None) ≡ true
        → (kind : TileKind) × (kind_at parts t ≡ Some kind)
    by true true f = let s : RamSite = record { lower = t; upper = record { x = t.x; y = t.y + 1 } } in of s (is_site parts s) refl refl f
    by true false f = absurd (true≢false (sym f))
    by false low f = absurd (true≢false (sym f))
