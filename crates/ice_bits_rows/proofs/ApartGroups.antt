-- Groups that have no bit in common: their bundles are private, and each is the only one of its bundle with a bit of its own.
use Rattle.std.proofs.Common.{◌≡◌, ℕ, zero, suc, ◌<◌, Bool, true, false, cond, List, [], ◌∷◌, ◌++◌, length, get_or, refl, sym, ap, subst, ◌∙◌, arith, true≢false}
use Rattle.std.specs.Prelude.{◌&&◌, ◌||◌, ◌==◌, not, filter}
use Rattle.std.specs.List.{list_any}
use Rattle.std.proofs.lemmas.Bool.{and_left, and_right, or_parts, or_from}
use Rattle.std.proofs.lemmas.List.Folds.{list_any-append}
use Rattle.ice_base.specs.declared.number.TileAt.{TileAt}
use Rattle.ice_base.specs.declared.bit.BitAt.{BitAt}
use Rattle.ice_base.specs.Places.{same_place}
use Rattle.ice_base.proofs.Keys.{nat_self, tile_same, tile_self, place_self}
use Rattle.ice_chip.specs.Database.{Parts, SwitchGroup, same_tile}
use Rattle.ice_chip.specs.Lookups.{kind_at}
use Rattle.ice_bits_rows.specs.Apart.{is_met, IsApart, AreApart, ShareNothing}
use Rattle.ice_bits_rows.specs.Bundles.{bundle, groups_into, has_bit, is_of_function, is_of_other, is_private, is_shared, shares_bit}
use Rattle.ice_bits_rows.specs.Own.{each_once}
use Rattle.ice_bits_rows.specs.Plain.{is_meeting, meets_one}

-- ---- one group more
-- what isn't met among groups isn't met in one of them, nor in the others
unmet_parts : (x : SwitchGroup) (groups : List SwitchGroup) (t : TileAt) (b : BitAt) → is_met (x ∷ groups) t b ≡ false → ((same_tile x.tile t && has_bit x.bits b) ≡ false) × (is_met groups t b ≡ false)
unmet_parts x groups t b e = or_parts (same_tile x.tile t && has_bit x.bits b) (is_met groups t b) e

-- a group that has none of another's bits, which has none of its own
other_way : (x g : SwitchGroup) (b : BitAt) → has_bit x.bits b ≡ true → (has_bit g.bits b ≡ true → (same_tile x.tile g.tile && has_bit x.bits b) ≡ false) → (same_tile g.tile x.tile && has_bit g.bits b) ≡ false
other_way x g b has unmet = by (same_tile g.tile x.tile) (has_bit g.bits b) refl refl
  where
    by : (s h : Bool) → same_tile g.tile x.tile ≡ s → has_bit g.bits b ≡ h → (s && h) ≡ false
    by false h is holds = refl
    by true false is holds = refl
    by true true is holds =
        let same : same_tile x.tile g.tile ≡ true = ap (λ t. same_tile x.tile t) (tile_same g.tile x.tile is) ∙ tile_self x.tile in
        absurd (true≢false (sym (ap (λ s. s && has_bit x.bits b) same ∙ has) ∙ unmet holds))

apart_before : (parts : Parts) (groups : List SwitchGroup) (x g : SwitchGroup) → IsApart parts groups x → IsApart parts (x ∷ groups) g → IsApart parts (groups ++ g ∷ []) x
apart_before parts groups x g is more = record {
  once = is.once;
  unmet = λ b has.
      list_any-append (λ h. same_tile h.tile x.tile && has_bit h.bits b) groups (g ∷ [])
      ∙ or_from (is_met groups x.tile b) (is_met (g ∷ []) x.tile b) (is.unmet b has)
      (or_from (same_tile g.tile x.tile && has_bit g.bits b) false (other_way x g b has (λ holds. (unmet_parts x groups g.tile b (more.unmet b holds)).0)) refl);
  native = is.native;
}

fewer : (parts : Parts) (groups : List SwitchGroup) (x g : SwitchGroup) → IsApart parts (x ∷ groups) g → IsApart parts groups g
fewer parts groups x g is = record { once = is.once; unmet = λ b has. (unmet_parts x groups g.tile b (is.unmet b has)).1; native = is.native }

pub apart_more : (parts : Parts) (groups : List SwitchGroup) (g : SwitchGroup) → AreApart parts groups → IsApart parts groups g → AreApart parts (groups ++ g ∷ [])
apart_more parts [] g are is = (is, tt)
apart_more parts (x ∷ groups) g are is = (apart_before parts groups x g are.0 is, apart_more parts groups g are.1 (fewer parts groups x g is))

-- ---- groups among them
-- a bit of a group is met where that is
met_by : (groups : List SwitchGroup) (g : SwitchGroup) (k : ℕ) (t : TileAt) (b : BitAt) → k < length groups → get_or groups k g ≡ g → same_tile g.tile t ≡ true → has_bit g.bits b ≡ true → is_met groups t b ≡ true
met_by [] g k t b lt at same has = absurd (omega arith)
met_by (x ∷ groups) g zero t b lt at same has =
    ap (λ (y : SwitchGroup). (same_tile y.tile t && has_bit y.bits b) || is_met groups t b) at
    ∙ ap (λ s. (s && has_bit g.bits b) || is_met groups t b) same
    ∙ ap (λ h. h || is_met groups t b) has
met_by (x ∷ groups) g (suc k) t b lt at same has =
    ap (λ r. (same_tile x.tile t && has_bit x.bits b) || r) (met_by groups g k t b (omega arith) at same has) ∙ or_last (same_tile x.tile t && has_bit x.bits b)
  where
    or_last : (a : Bool) → (a || true) ≡ true
    or_last true = refl
    or_last false = refl

-- no bit of a group is in a group before it
not_before : (parts : Parts) (x g : SwitchGroup) (groups : List SwitchGroup) (k : ℕ) (b : BitAt) → IsApart parts groups x → k < length groups → get_or groups k g ≡ g → has_bit g.bits b ≡ true
    → (same_tile x.tile g.tile && has_bit x.bits b) ≡ false
not_before parts x g groups k b is lt at has = other_way g x b has clash
  where
    clash : has_bit x.bits b ≡ true → (same_tile g.tile x.tile && has_bit g.bits b) ≡ false
    clash holds = by (same_tile g.tile x.tile) refl
      where
        by : (s : Bool) → same_tile g.tile x.tile ≡ s → (s && has_bit g.bits b) ≡ false
        by false same = refl
        by true same = absurd (true≢false (sym (met_by groups g k x.tile b lt at same has) ∙ is.unmet b holds))

-- what isn't met isn't in another bundle
unmet_other : (groups : List SwitchGroup) (t : TileAt) (w : ℕ) (b : BitAt) → is_met groups t b ≡ false → is_of_other groups t w b ≡ false
unmet_other [] t w b e = refl
unmet_other (x ∷ groups) t w b e =
    let parts = unmet_parts x groups t b e in
    or_from ((same_tile x.tile t && not (x.wire == w)) && has_bit x.bits b) (is_of_other groups t w b) (by (same_tile x.tile t) (not (x.wire == w)) (has_bit x.bits b) parts.0) (unmet_other groups t w b parts.1)
  where
    by : (s n h : Bool) → (s && h) ≡ false → ((s && n) && h) ≡ false
    by false n h is = refl
    by true false h is = refl
    by true true h is = is

-- no bit of a group is in another bundle
none_other : (parts : Parts) (groups : List SwitchGroup) (g : SwitchGroup) (k : ℕ) (b : BitAt) → AreApart parts groups → k < length groups → get_or groups k g ≡ g → has_bit g.bits b ≡ true
    → is_of_other groups g.tile g.wire b ≡ false
none_other parts [] g k b are lt at has = absurd (omega arith)
none_other parts (x ∷ groups) g zero b are lt at has =
    let own : IsApart parts groups g = subst (λ y. IsApart parts groups y) at are.0 in
    ap (λ (y : SwitchGroup). ((same_tile y.tile g.tile && not (y.wire == g.wire)) && has_bit y.bits b) || is_of_other groups g.tile g.wire b) at
    ∙ or_from ((same_tile g.tile g.tile && not (g.wire == g.wire)) && has_bit g.bits b) (is_of_other groups g.tile g.wire b)
    (and_left (same_tile g.tile g.tile && not (g.wire == g.wire)) (has_bit g.bits b) (and_right (same_tile g.tile g.tile) (not (g.wire == g.wire)) (ap not (nat_self g.wire))))
    (unmet_other groups g.tile g.wire b (own.unmet b has))
none_other parts (x ∷ groups) g (suc k) b are lt at has =
    or_from ((same_tile x.tile g.tile && not (x.wire == g.wire)) && has_bit x.bits b) (is_of_other groups g.tile g.wire b)
    (by (same_tile x.tile g.tile) (not (x.wire == g.wire)) (has_bit x.bits b) (not_before parts x g groups k b are.0 (omega arith) at has))
    (none_other parts groups g k b are.1 (omega arith) at has)
  where
    by : (s n h : Bool) → (s && h) ≡ false → ((s && n) && h) ≡ false
    by false n h is = refl
    by true false h is = refl
    by true true h is = is

apart_at : (parts : Parts) (groups : List SwitchGroup) (g : SwitchGroup) (k : ℕ) → AreApart parts groups → k < length groups → get_or groups k g ≡ g
    → (b : BitAt) → has_bit g.bits b ≡ true → is_of_function parts.functions (kind_at parts g.tile) b ≡ false
apart_at parts [] g k are lt at b has = absurd (omega arith)
apart_at parts (x ∷ groups) g zero are lt at b has = (subst (λ y. IsApart parts groups y) at are.0).native b has
apart_at parts (x ∷ groups) g (suc k) are lt at b has = apart_at parts groups g k are.1 (omega arith) at b has

once_at : (parts : Parts) (groups : List SwitchGroup) (g : SwitchGroup) (k : ℕ) → AreApart parts groups → k < length groups → get_or groups k g ≡ g → each_once g.bits ≡ true
once_at parts [] g k are lt at = absurd (omega arith)
once_at parts (x ∷ groups) g zero are lt at = (subst (λ y. IsApart parts groups y) at are.0).once
once_at parts (x ∷ groups) g (suc k) are lt at = once_at parts groups g k are.1 (omega arith) at

-- ---- bundles are private
none_of : (test : BitAt → Bool) (bits : List BitAt) → ((b : BitAt) → has_bit bits b ≡ true → test b ≡ false) → list_any test bits ≡ false
none_of test [] none = refl
none_of test (p ∷ bits) none =
    or_from (test p) (list_any test bits) (none p (ap (λ s. s || has_bit bits p) (place_self p))) (none_of test bits (λ b has. none b (ap (λ h. same_place p b || h) has ∙ or_last (same_place p b))))
  where
    or_last : (a : Bool) → (a || true) ≡ true
    or_last true = refl
    or_last false = refl

shares_none : (parts : Parts) (g : SwitchGroup) (k : ℕ) → AreApart parts parts.groups → k < length parts.groups → get_or parts.groups k g ≡ g → shares_bit parts g ≡ false
shares_none parts g k are lt at =
    none_of (is_shared parts g.tile g.wire) g.bits
    (λ b has. or_from (is_of_other parts.groups g.tile g.wire b) (is_of_function parts.functions (kind_at parts g.tile) b) (none_other parts parts.groups g k b are lt at has) (apart_at parts parts.groups g k are lt at b has))

none_among : {X : Type 0} (test : X → Bool) (p q : X → Bool) (xs : List X) → ((x : X) (k : ℕ) → k < length xs → get_or xs k x ≡ x → test x ≡ false) → list_any test (filter p (filter q xs)) ≡ false
none_among test p q [] none = refl
none_among test p q (x ∷ xs) none = by_q (q x) (none_among test p q xs (λ y k lt at. none y (suc k) (omega (arith, lt)) at))
  where
    by_p : (b : Bool) → list_any test (filter p (filter q xs)) ≡ false → list_any test (cond b (x ∷ filter p (filter q xs)) (filter p (filter q xs))) ≡ false
    by_p true rest = or_from (test x) (list_any test (filter p (filter q xs))) (none x 0 (omega arith) refl) rest
    by_p false rest = rest

    by_q : (b : Bool) → list_any test (filter p (filter q xs)) ≡ false → list_any test (filter p (cond b (x ∷ filter q xs) (filter q xs))) ≡ false
    by_q true rest = by_p (p x) rest
    by_q false rest = rest

all_private : (parts : Parts) (tile : TileAt) (wire : ℕ) → AreApart parts parts.groups → is_private parts tile wire ≡ true
all_private parts tile wire are =
    ap not (none_among (shares_bit parts) (λ g. same_tile g.tile tile) (λ g. g.wire == wire) parts.groups (λ g k lt at. shares_none parts g k are lt at))

-- ---- a group is met once in its bundle
-- two groups do not meet where no bit of the one is met in the other
not_meeting : (g other : SwitchGroup) → ((b : BitAt) → has_bit other.bits b ≡ true → has_bit g.bits b ≡ true → same_tile other.tile g.tile ≡ true → ⊥) → is_meeting g other ≡ false
not_meeting g other apart = by_tile (same_tile other.tile g.tile) refl
  where
    by_bit : (b : BitAt) (h : Bool) → has_bit g.bits b ≡ h → has_bit other.bits b ≡ true → same_tile other.tile g.tile ≡ true → h ≡ false
    by_bit b true is has same = absurd (apart b has is same)
    by_bit b false is has same = refl

    by_tile : (s : Bool) → same_tile other.tile g.tile ≡ s → (s && list_any (has_bit g.bits) other.bits) ≡ false
    by_tile false is = refl
    by_tile true is = none_of (has_bit g.bits) other.bits (λ b has. by_bit b (has_bit g.bits b) refl has is)

none_later : (parts : Parts) (groups : List SwitchGroup) (g : SwitchGroup) → IsApart parts groups g → (x : SwitchGroup) (k : ℕ) → k < length groups → get_or groups k x ≡ x → is_meeting g x ≡ false
none_later parts groups g is x k lt at = not_meeting g x (λ b has holds same. true≢false (sym (met_by groups x k g.tile b lt at same has) ∙ is.unmet b holds))

none_earlier : (parts : Parts) (groups : List SwitchGroup) (x g : SwitchGroup) (k : ℕ) → IsApart parts groups x → k < length groups → get_or groups k g ≡ g → is_meeting g x ≡ false
none_earlier parts groups x g k is lt at =
    not_meeting g x (λ b has holds same. true≢false (sym (ap (λ s. s && has_bit x.bits b) same ∙ has) ∙ not_before parts x g groups k b is lt at holds))

none_met : (g : SwitchGroup) (p : SwitchGroup → Bool) (groups : List SwitchGroup) → ((x : SwitchGroup) (k : ℕ) → k < length groups → get_or groups k x ≡ x → is_meeting g x ≡ false) → meets_one g true (filter p groups) ≡ true
none_met g p [] none = refl
none_met g p (x ∷ groups) none = by (p x) (is_meeting g x) (none x 0 (omega arith) refl) (none_met g p groups (λ y k lt at. none y (suc k) (omega (arith, lt)) at))
  where
    at_test : (m : Bool) → m ≡ false → meets_one g true (filter p groups) ≡ true → cond (m && true) false (meets_one g (true || m) (filter p groups)) ≡ true
    at_test true is rest = absurd (true≢false is)
    at_test false is rest = rest

    by : (b m : Bool) → is_meeting g x ≡ false → meets_one g true (filter p groups) ≡ true → meets_one g true (cond b (x ∷ filter p groups) (filter p groups)) ≡ true
    by true m is rest = at_test (is_meeting g x) is rest
    by false m is rest = rest

met_once : (parts : Parts) (groups : List SwitchGroup) (g : SwitchGroup) (k : ℕ) → AreApart parts groups → k < length groups → get_or groups k g ≡ g → is_meeting g g ≡ true
    → meets_one g false (groups_into groups g.wire) ≡ true
met_once parts [] g k are lt at meets = absurd (omega arith)
met_once parts (x ∷ groups) g zero are lt at meets =
    let own : IsApart parts groups g = subst (λ y. IsApart parts groups y) at are.0 in
    ap (λ (y : SwitchGroup). meets_one g false (cond (y.wire == g.wire) (y ∷ groups_into groups g.wire) (groups_into groups g.wire))) at
    ∙ ap (λ b. meets_one g false (cond b (g ∷ groups_into groups g.wire) (groups_into groups g.wire))) (nat_self g.wire)
    ∙ ap (λ m. cond (m && false) false (meets_one g (false || m) (groups_into groups g.wire))) meets
    ∙ none_met g (λ y. y.wire == g.wire) groups (none_later parts groups g own)
met_once parts (x ∷ groups) g (suc k) are lt at meets = by (x.wire == g.wire) (met_once parts groups g k are.1 (omega arith) at meets)
  where
    at_test : (m : Bool) → m ≡ false → meets_one g false (groups_into groups g.wire) ≡ true → cond (m && false) false (meets_one g (false || m) (groups_into groups g.wire)) ≡ true
    at_test true is rest = absurd (true≢false is)
    at_test false is rest = rest

    by : (b : Bool) → meets_one g false (groups_into groups g.wire) ≡ true → meets_one g false (cond b (x ∷ groups_into groups g.wire) (groups_into groups g.wire)) ≡ true
    by true rest = at_test (is_meeting g x) (none_earlier parts groups x g k are.0 (omega arith) at) rest
    by false rest = rest

pub share_nothing : (parts : Parts) → AreApart parts parts.groups → ShareNothing parts
share_nothing parts are =
    (λ tile wire. all_private parts tile wire are, λ g member. (once_at parts parts.groups g member.0 are member.1 member.2, λ meets. met_once parts parts.groups g member.0 are member.1 member.2 meets))
