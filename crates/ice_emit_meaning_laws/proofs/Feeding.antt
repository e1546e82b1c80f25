-- Whether a global feeds one, looked up for each of the eight.
use Rattle.std.proofs.Common.{◌≡◌, ◌≢◌, ℕ, zero, suc, ◌<◌, ◌==◌, Bool, true, false, Option, None, Some, List, [], get_or, refl, sym, ap, ◌∙◌, arith, true≢false}
use Rattle.std.specs.Prelude.{◌||◌, ◌↔◌, not, option_map, codes, IfSome, IsTrue}
use Rattle.std.specs.Option.{option_map_or, option_and_then}
use Rattle.std.proofs.lemmas.Bool.{eqb-true, eq-eqb}
use Rattle.std.proofs.lemmas.Option.{slice_get-get_or}
use Rattle.ice_base.proofs.Booleans.{or_true}
use Rattle.ice_base.proofs.Options.{option_map_some}
use Rattle.ice_base.specs.declared.number.TileAt.{TileAt}
use Rattle.ice_base.specs.declared.number.WireNo.{WireNo}
use Rattle.ice_base_values.specs.Order.{Has}
use Rattle.ice_base_values.proofs.Cycles.{cycle_goes_on}
use Rattle.ice_base_values.proofs.Members.{Has_all}
use Rattle.ice_chip.specs.Database.{Parts}
use Rattle.ice_chip.specs.IsRead.{IsRead}
use Rattle.ice_chip.specs.Lookups.{global_of, wire_named}
use Rattle.ice_chip.specs.WireNames.{fabout_name}
use Rattle.ice_chip.specs.Within.{FeedsGlobal}
use Rattle.ice_chip_laws.specs.Laws.{IsLawful}
use Rattle.ice_decode.specs.declared.role.Role.{Role}
use Rattle.ice_decode.specs.declared.role.Role.TheVariants.{Plain, Output, LookUp, CarryOut, PadInput, RamOutput, Global, CarryIn, ClockEnable}
use Rattle.ice_decode.specs.Reads.{global_feed, wire_point, at_pin_of}
use Rattle.ice_decode.specs.Drivers.{role_of}
use Rattle.ice_emit_meaning_laws.specs.Feeds.{FeedsNoGlobal, HasGlobalRing, IsRingless, feeders, global_numbers, feed_of, is_fed_by_global, is_global, some_fed_below}
use Rattle.ice_emit_meaning_laws.proofs.IoFeeds.{number}

-- a wire that is found by a name is one of the chip
pub found_within : (parts : Parts) → IsLawful parts → (t : TileAt) (name : List ℕ) (found : Option WireNo) → option_map (λ (w : WireNo). w.0) found ≡ wire_named parts t name → IfSome found (λ w. w.0 < parts.wires)
found_within parts lawful t name None e = tt
found_within parts lawful t name (Some w) e = lawful.names.below w.0 (record { tile = t; name = name }) (lawful.names.found t name w.0 (sym e))

pub fed_below : (parts : Parts) (n limit : ℕ) → n < limit → is_fed_by_global parts n ≡ true → some_fed_below parts limit ≡ true
fed_below parts n zero lt e = absurd (omega arith)
fed_below parts n (suc limit) lt e = by (n == limit) refl (λ below. fed_below parts n limit below e)
  where
    by : (b : Bool) → (n == limit) ≡ b → (n < limit → some_fed_below parts limit ≡ true) → (some_fed_below parts limit || is_fed_by_global parts limit) ≡ true
    by true is earlier =
        ap (λ m. some_fed_below parts limit || is_fed_by_global parts m) (sym (eqb-true n limit is))
        ∙ ap (λ t. some_fed_below parts limit || t) e
        ∙ or_true (some_fed_below parts limit)
    by false is earlier =
        let apart : n ≢ limit = λ same. true≢false (sym (eq-eqb n limit same) ∙ is) in
        ap (λ b. b || is_fed_by_global parts limit) (earlier (omega arith))

-- what feeds a global is the wire that is found
is_feed : (parts : Parts) (o : Option TileAt) → at_pin_of parts o (codes "fabout") ≡ option_map wire_point (option_and_then (λ t. wire_named parts t fabout_name) o)
is_feed parts None = refl
is_feed parts (Some t) = refl

pub found_feed : (parts : Parts) (n w : ℕ) → global_feed parts n ≡ Some (wire_point w) → feed_of parts n ≡ Some w
found_feed parts n w e =
    let wire = option_map_some wire_point (feed_of parts n) (wire_point w) (sym (is_feed parts (global_of parts n)) ∙ e) in
    wire.1 ∙ ap (λ (x : ℕ). Some x) (ap number wire.2)

-- a row names one of the eight
fed_number : (parts : Parts) → IsRead parts → IsLawful parts → (n w : ℕ) → feed_of parts n ≡ Some w → n < 8
fed_number parts read lawful n w e = by (global_of parts n) refl e
  where
    by : (o : Option TileAt) → global_of parts n ≡ o → option_and_then (λ t. wire_named parts t fabout_name) o ≡ Some w → n < 8
    by None is f = cc f
    by (Some t) is f = (Has_all (FeedsGlobal parts.width parts.height) parts.gbufin (t, n) read.feeds (lawful.servers.globals n t is)).global

none_fed : (parts : Parts) → IsRead parts → IsLawful parts → some_fed_below parts 8 ≡ false → FeedsNoGlobal parts
none_fed parts read lawful none = record {
  none = λ n m w feed is.
      let found = found_feed parts n w feed in
      let fed : is_fed_by_global parts n ≡ true = ap (λ o. option_map_or (λ w. is_global (role_of parts w)) o false) found ∙ ap is_global is in
      true≢false (sym (fed_below parts n 8 (fed_number parts read lawful n w found) fed) ∙ none);
}

-- the other way
no_global : (role : Role) → ((m : ℕ) → role ≡ Global m → ⊥) → is_global role ≡ false
no_global Plain never = refl
no_global (Output t i) never = refl
no_global (LookUp t i) never = refl
no_global (CarryOut t i) never = refl
no_global (PadInput pad) never = refl
no_global (RamOutput pad) never = refl
no_global (Global n) never = absurd (never n refl)
no_global (CarryIn t) never = refl
no_global ClockEnable never = refl

unfed : (parts : Parts) → FeedsNoGlobal parts → (n : ℕ) → is_fed_by_global parts n ≡ false
unfed parts feeds n = by (feed_of parts n) refl
  where
    by : (o : Option ℕ) → feed_of parts n ≡ o → option_map_or (λ w. is_global (role_of parts w)) o false ≡ false
    by None e = refl
    by (Some w) e = no_global (role_of parts w) (λ m is. feeds.none n m w (is_feed parts (global_of parts n) ∙ ap (option_map wire_point) e) is)

unfed_below : (parts : Parts) → FeedsNoGlobal parts → (limit : ℕ) → some_fed_below parts limit ≡ false
unfed_below parts feeds zero = refl
unfed_below parts feeds (suc limit) = ap (λ b. b || is_fed_by_global parts limit) (unfed_below parts feeds limit) ∙ unfed parts feeds limit

flipped : (b : Bool) → not b ≡ true → b ≡ false
flipped true e = sym e
flipped false e = refl

pub told : (parts : Parts) → IsRead parts → IsLawful parts → (some : Bool) → some ≡ some_fed_below parts 8 → IsTrue (not some) ↔ FeedsNoGlobal parts
told parts read lawful some looked = (λ e. none_fed parts read lawful (sym looked ∙ flipped some e), λ feeds. ap not (looked ∙ unfed_below parts feeds 8))

-- ---- rings
-- a global that is fed by one has a wire that is one
module _ (parts : Parts) (feeds : FeedsNoGlobal parts) (n m : ℕ) where
  at_role : (w : ℕ) → feed_of parts n ≡ Some w → (r : Role) → role_of parts w ≡ r → Has (global_numbers r) m → ⊥
  at_role w found Plain is has = cc has.1
  at_role w found (Output t i) is has = cc has.1
  at_role w found (LookUp t i) is has = cc has.1
  at_role w found (CarryOut t i) is has = cc has.1
  at_role w found (PadInput pad) is has = cc has.1
  at_role w found (RamOutput pad) is has = cc has.1
  at_role w found (Global k) is has = feeds.none n k w (is_feed parts (global_of parts n) ∙ ap (option_map wire_point) found) is
  at_role w found (CarryIn t) is has = cc has.1
  at_role w found ClockEnable is has = cc has.1

  never_fed : Has (feeders parts n) m → ⊥
  never_fed has = by (feed_of parts n) refl has
    where
      by : (o : Option ℕ) → feed_of parts n ≡ o → Has (option_map_or (λ w. global_numbers (role_of parts w)) o []) m → ⊥
      by None found has = cc has.1
      by (Some w) found has = at_role w found (role_of parts w) refl has

pub ring_fed : (parts : Parts) → FeedsNoGlobal parts → HasGlobalRing parts → ⊥
ring_fed parts feeds (ring, c) =
    let first = get_or ring 0 0 in
    let next = cycle_goes_on (feeders parts) ring c first (0, slice_get-get_or ring 0 0 c.some) in
    never_fed parts feeds first next.0 next.1

pub ringless : (parts : Parts) → IsRead parts → IsLawful parts → (some : Bool) → some ≡ some_fed_below parts 8 → IsTrue (not some) → IsRingless parts
ringless parts read lawful some looked none = record { none = ring_fed parts ((told parts read lawful some looked).0 none) }
