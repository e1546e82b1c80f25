-- What stands at the sites of block RAMs, and that each tile is in one.
use Rattle.std.proofs.Common.{◌≡◌, ◌⊎◌, inl, inr, ℕ, zero, suc, ◌+◌, ◌<◌, Bool, true, false, Option, None, Some, is_some, List, [], ◌∷◌, map, refl, sym, ap, ◌∙◌, subst, true≢false, arith}
use Rattle.std.specs.Prelude.{◌&&◌, not, nat_lt, filter_map, if◌then◌else◌}
use Rattle.std.specs.List.{AllByRecursion, IsDistinct, cons_option}
use Rattle.std.specs.Map.{keys_of}
use Rattle.std.specs.Option.{option_and_then}
use Rattle.std.proofs.lemmas.Bool.{and_parts}
use Rattle.std.proofs.lemmas.Map.Keys.{IsDistinct-head, IsDistinct-tail}
use Rattle.std.proofs.lemmas.Option.{none-some, same_Some}
use Rattle.ice_base.specs.declared.number.TileAt.{TileAt}
use Rattle.ice_base.proofs.Keys.{tile_same, tile_self}
use Rattle.ice_base_values.specs.Order.{At, Has, StandOnce}
use Rattle.ice_base_values.proofs.Members.{map_At}
use Rattle.ice_base_values.proofs.Once.{distinct_from_once}
use Rattle.ice_base_values.proofs.Together.{Has_head, Has_tail}
use Rattle.ice_chip.specs.Database.{Parts, same_tile}
use Rattle.ice_chip.specs.IsRead.{IsRead}
use Rattle.ice_chip.specs.Lookups.{kind_at, wire_named}
use Rattle.ice_chip.specs.RamNames.{is_lower, has_ram_wire, ram_name}
use Rattle.ice_chip.specs.declared.rows.TileKind.{TileKind}
use Rattle.ice_chip.specs.declared.rows.TileKind.TheVariants.{RamBottom, RamTop}
use Rattle.ice_chip.specs.declared.rows.TileLine.{TileLine}
use Rattle.ice_chip.proofs.SameKinds.{kind_same}
use Rattle.ice_chip_names.proofs.Prefixes.{below_or_last}
use Rattle.ice_chip_rams.specs.Sites.{ram_tile, has_ram_functions, is_known, is_wired, each_below, are_wired, is_site, if_site, site_at, site_of_tile, sites}
use Rattle.ice_chip_rams.specs.declared.ram_site.RamSite.{RamSite}

-- the place right above a tile, and the site whose lower tile stands at a place
abbrev pub next_tile : TileAt → TileAt
next_tile t = record { x = t.x; y = t.y + 1 }

abbrev above : TileAt → RamSite
above t = record { lower = t; upper = next_tile t }

-- ---- what stands at a site
pub record IsSiteAt (parts : Parts) (s : RamSite) : Type 0 where
  pub functions : has_ram_functions parts ≡ true
  pub lower : kind_at parts s.lower ≡ Some RamBottom
  pub upper : kind_at parts s.upper ≡ Some RamTop
  pub wired : (n : ℕ) → n < 74 → (w : ℕ) × (wire_named parts (ram_tile s n) (ram_name n) ≡ Some w)
  pub higher : s.upper ≡ next_tile s.lower

known_is : (kind : TileKind) (o : Option TileKind) → is_known kind o ≡ true → o ≡ Some kind
known_is kind None e = absurd (true≢false (sym e))
known_is kind (Some known) e = ap Some (kind_same known kind e)

passes_below : (test : ℕ → Bool) (n m : ℕ) → n < m → each_below test m ≡ true → test n ≡ true
passes_below test n zero lt all = absurd (omega arith)
passes_below test n (suc m) lt all = by (and_parts (each_below test m) (test m) all) (below_or_last n m (omega arith)) (passes_below test n m)
  where
    by : (each_below test m ≡ true) × (test m ≡ true) → (n < m) ⊎ (n ≡ m) → (n < m → each_below test m ≡ true → test n ≡ true) → test n ≡ true
    by (before, here) (inl below) more = more below before
    by (before, here) (inr last) more = ap test last ∙ here

some_there : (o : Option ℕ) → is_some o ≡ true → (w : ℕ) × (o ≡ Some w)
some_there None e = absurd (true≢false (sym e))
some_there (Some w) e = (w, refl)

wired_below : (parts : Parts) (s : RamSite) → are_wired parts s ≡ true → (n : ℕ) → n < 74 → (w : ℕ) × (wire_named parts (ram_tile s n) (ram_name n) ≡ Some w)
unfolding are_wired
wired_below parts s all n lt = some_there (wire_named parts (ram_tile s n) (ram_name n)) (passes_below (is_wired parts s) n 74 lt all)

told : (parts : Parts) (t : TileAt) → has_ram_functions parts ≡ true → is_site parts (above t) ≡ true → IsSiteAt parts (above t)
told parts t functions e =
    let both = and_parts (is_known RamBottom (kind_at parts t) && is_known RamTop (kind_at parts (above t).upper)) (are_wired parts (above t)) e in
    let kinds = and_parts (is_known RamBottom (kind_at parts t)) (is_known RamTop (kind_at parts (above t).upper)) both.0 in
    record {
      functions = functions;
      lower = known_is RamBottom (kind_at parts t) kinds.0;
      upper = known_is RamTop (kind_at parts (above t).upper) kinds.1;
      wired = wired_below parts (above t) both.1;
      higher = refl;
    }

pub site_told : (parts : Parts) (t : TileAt) (s : RamSite) → site_at parts t ≡ Some s → (t ≡ s.lower) × IsSiteAt parts s
site_told parts t s e = by (has_ram_functions parts) (nat_lt t.y 65535) refl e
  where
    of : (b : Bool) → has_ram_functions parts ≡ true → is_site parts (above t) ≡ b → if◌then◌else◌ {A = Option RamSite} b (Some (above t)) None ≡ Some s → (t ≡ s.lower) × IsSiteAt parts s
    of true functions is f =
        let same : above t ≡ s = same_Some (above t) s f in
        (ap (λ (r : RamSite). r.lower) same, subst (IsSiteAt parts) same (told parts t functions is))
    of false functions is f = absurd (none-some s f)

    by : (functions low : Bool) → has_ram_functions parts ≡ functions
        → if◌then◌else◌ {A = Option RamSite} functions (option_and_then (if_site parts) (if◌then◌else◌ {A = Option RamSite} low (Some (above t)) None)) None ≡ Some s
        → (t ≡ s.lower) × IsSiteAt parts s
    by true true are f = of (is_site parts (above t)) are refl f
    by true false are f = absurd (none-some s f)
    by false low are f = absurd (none-some s f)

-- ---- the sites of a chip
pub site_among : (parts : Parts) (tiles : List (TileAt × TileLine)) (j : ℕ) (s : RamSite) → At (filter_map (site_of_tile parts) tiles) j s → (tile : TileAt × TileLine) × Has tiles tile × (site_at parts tile.0 ≡ Some s)
site_among parts [] j s at = absurd (none-some s at)
site_among parts (tile ∷ tiles) j s at = by (site_at parts tile.0) refl at (site_among parts tiles)
  where
    further : ((u : TileAt × TileLine) × Has tiles u × (site_at parts u.0 ≡ Some s)) → (u : TileAt × TileLine) × Has (tile ∷ tiles) u × (site_at parts u.0 ≡ Some s)
    further (u, has, is) = (u, Has_tail tile u tiles has, is)

    by : (o : Option RamSite) → site_at parts tile.0 ≡ o → At (cons_option o (filter_map (site_of_tile parts) tiles)) j s
        → ((k : ℕ) (r : RamSite) → At (filter_map (site_of_tile parts) tiles) k r → (u : TileAt × TileLine) × Has tiles u × (site_at parts u.0 ≡ Some r))
        → (u : TileAt × TileLine) × Has (tile ∷ tiles) u × (site_at parts u.0 ≡ Some s)
    by None is at more = further (more j s at)
    by (Some r) is at more = cases j at
      where
        cases : (k : ℕ) → At (r ∷ filter_map (site_of_tile parts) tiles) k s → (u : TileAt × TileLine) × Has (tile ∷ tiles) u × (site_at parts u.0 ≡ Some s)
        cases zero here = (tile, Has_head tile tiles, is ∙ here)
        cases (suc k) there = further (more k s there)

-- what stands at the site of a number
pub site_facts : (parts : Parts) (j : ℕ) (s : RamSite) → At (sites parts) j s → IsSiteAt parts s
site_facts parts j s at = let found = site_among parts parts.tiles j s at in (site_told parts found.0.0 s found.2).1

-- the site at its own lower tile
pub site_found : (parts : Parts) (j : ℕ) (s : RamSite) → At (sites parts) j s → site_at parts s.lower ≡ Some s
site_found parts j s at =
    let found = site_among parts parts.tiles j s at in
    ap (site_at parts) (sym (site_told parts found.0.0 s found.2).0) ∙ found.2

-- ---- each tile is in one site
other_key : (t : TileAt) (tiles : List (TileAt × TileLine)) (u : TileAt × TileLine) (i : ℕ) → At tiles i u → AllByRecursion (λ y. same_tile t y ≡ false) (keys_of tiles) → same_tile t u.0 ≡ false
other_key t [] u i at all = absurd (none-some u at)
other_key t (x ∷ tiles) u zero at all = ap (λ (v : TileAt × TileLine). same_tile t v.0) (sym (same_Some x u at)) ∙ all.0
other_key t (x ∷ tiles) u (suc i) at all = other_key t tiles u i at all.1

-- sites whose lower tiles are the same stand at one place
once_among : (parts : Parts) (tiles : List (TileAt × TileLine)) → IsDistinct same_tile (keys_of tiles) → (j k : ℕ) (s r : RamSite) → At (filter_map (site_of_tile parts) tiles) j s → At (filter_map (site_of_tile parts) tiles) k r
    → s.lower ≡ r.lower → j ≡ k
once_among parts [] distinct j k s r a b same = absurd (none-some s a)
once_among parts (tile ∷ tiles) distinct j k s r a b same = by (site_at parts tile.0) refl a b (once_among parts tiles (IsDistinct-tail same_tile tile.0 (keys_of tiles) distinct) j k s r) (once_among parts tiles (IsDistinct-tail same_tile tile.0 (keys_of tiles) distinct))
  where
    never : (x y : RamSite) (m : ℕ) → site_at parts tile.0 ≡ Some x → At (filter_map (site_of_tile parts) tiles) m y → x.lower ≡ y.lower → ⊥
    never x y m is at e =
        let found = site_among parts tiles m y at in
        let one : tile.0 ≡ found.0.0 = (site_told parts tile.0 x is).0 ∙ e ∙ sym (site_told parts found.0.0 y found.2).0 in
        let apart = other_key tile.0 tiles found.0 found.1.0 found.1.1 (IsDistinct-head same_tile tile.0 (keys_of tiles) distinct) in
        true≢false (sym (tile_self tile.0) ∙ ap (same_tile tile.0) one ∙ apart)

    cases : (x : RamSite) → site_at parts tile.0 ≡ Some x → (m n : ℕ) → At (x ∷ filter_map (site_of_tile parts) tiles) m s → At (x ∷ filter_map (site_of_tile parts) tiles) n r
        → ((m n : ℕ) (s r : RamSite) → At (filter_map (site_of_tile parts) tiles) m s → At (filter_map (site_of_tile parts) tiles) n r → s.lower ≡ r.lower → m ≡ n) → m ≡ n
    cases x is zero zero a b more = refl
    cases x is zero (suc n) a b more = absurd (never x r n is b (ap (λ (z : RamSite). z.lower) (same_Some x s a) ∙ same))
    cases x is (suc m) zero a b more = absurd (never x s m is a (ap (λ (z : RamSite). z.lower) (same_Some x r b) ∙ sym same))
    cases x is (suc m) (suc n) a b more = ap suc (more m n s r a b same)

    by : (o : Option RamSite) → site_at parts tile.0 ≡ o → At (cons_option o (filter_map (site_of_tile parts) tiles)) j s → At (cons_option o (filter_map (site_of_tile parts) tiles)) k r
        → (At (filter_map (site_of_tile parts) tiles) j s → At (filter_map (site_of_tile parts) tiles) k r → s.lower ≡ r.lower → j ≡ k)
        → ((m n : ℕ) (s r : RamSite) → At (filter_map (site_of_tile parts) tiles) m s → At (filter_map (site_of_tile parts) tiles) n r → s.lower ≡ r.lower → m ≡ n)
        → j ≡ k
    by None is a b here more = here a b same
    by (Some x) is a b here more = cases x is j k a b more

pub sites_once : (parts : Parts) → IsRead parts → (j k : ℕ) (s r : RamSite) → At (sites parts) j s → At (sites parts) k r → s.lower ≡ r.lower → j ≡ k
sites_once parts read = once_among parts parts.tiles read.tiles_once

-- sites whose upper tiles are the same have the same lower ones
pub same_lower : (parts : Parts) (s r : RamSite) → IsSiteAt parts s → IsSiteAt parts r → s.upper ≡ r.upper → s.lower ≡ r.lower
same_lower parts s r one two same =
    let both : next_tile s.lower ≡ next_tile r.lower = sym one.higher ∙ same ∙ two.higher in
    let x : s.lower.x ≡ r.lower.x = ap (λ (t : TileAt). t.x) both in
    let next : s.lower.y + 1 ≡ r.lower.y + 1 = ap (λ (t : TileAt). t.y) both in
    let y : s.lower.y ≡ r.lower.y = omega (arith, next) in
    λ i. record { x = x i; y = y i }

pub uppers_once : (parts : Parts) → IsRead parts → (j k : ℕ) (s r : RamSite) → At (sites parts) j s → At (sites parts) k r → s.upper ≡ r.upper → j ≡ k
uppers_once parts read j k s r a b same = sites_once parts read j k s r a b (same_lower parts s r (site_facts parts j s a) (site_facts parts k r b) same)

-- the lower tiles of all sites are different
abbrev pub lower_of : RamSite → TileAt
lower_of s = s.lower

lowers_once : (parts : Parts) → IsRead parts → StandOnce (map lower_of (sites parts))
lowers_once parts read j k t a b =
    let one = map_At lower_of (sites parts) j t a in
    let two = map_At lower_of (sites parts) k t b in
    sites_once parts read j k one.0 two.0 one.1 two.1 (one.2 ∙ sym two.2)

pub lowers_apart : (parts : Parts) → IsRead parts → IsDistinct same_tile (map lower_of (sites parts))
lowers_apart parts read = distinct_from_once same_tile tile_same (map lower_of (sites parts)) (lowers_once parts read)

-- a pin that two sites share is in tiles of one
pub same_site_tile : (parts : Parts) (s r : RamSite) (n : ℕ) → IsSiteAt parts s → IsSiteAt parts r → ram_tile s n ≡ ram_tile r n → s.lower ≡ r.lower
same_site_tile parts s r n one two = by (is_lower n)
  where
    by : (b : Bool) → (if b then s.lower else s.upper) ≡ (if b then r.lower else r.upper) → s.lower ≡ r.lower
    by true same = same
    by false same = same_lower parts s r one two same

-- ---- the tile of a pin
pub record IsPinTile (parts : Parts) (s : RamSite) (n : ℕ) : Type 0 where
  pub kind : TileKind
  pub kind_is : kind_at parts (ram_tile s n) ≡ Some kind
  pub stands : has_ram_wire kind n ≡ true

pub pin_tile : (parts : Parts) (s : RamSite) (n : ℕ) → IsSiteAt parts s → IsPinTile parts s n
pin_tile parts s n facts = by (is_lower n) refl
  where
    by : (b : Bool) → is_lower n ≡ b → IsPinTile parts s n
    by true low = record { kind = RamBottom; kind_is = ap (λ b. kind_at parts (if b then s.lower else s.upper)) low ∙ facts.lower; stands = low }
    by false high = record { kind = RamTop; kind_is = ap (λ b. kind_at parts (if b then s.lower else s.upper)) high ∙ facts.upper; stands = ap not high }
