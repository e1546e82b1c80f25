-- A group whose rows differ, and whose bits no other group of its bundle has.
use Rattle.std.proofs.Common.{◌≡◌, ℕ, zero, suc, ◌+◌, ◌<◌, Bool, true, false, cond, None, Some, List, [], ◌∷◌, ◌++◌, length, map, slice_index_or, refl, sym, ap, subst, ◌∙◌, arith, true≢false}
use Rattle.std.specs.Prelude.{◌&&◌, ◌||◌, ◌==◌, filter}
use Rattle.std.specs.List.{list_any, Contains}
use Rattle.std.specs.Cmp.Lexicographic.{pointwise}
use Rattle.std.proofs.lemmas.Bool.{and_parts, and_right, or_parts, or_from}
use Rattle.ice_base.proofs.Keys.{nat_self, tile_self, place_self}
use Rattle.ice_base.specs.declared.number.TileAt.{TileAt}
use Rattle.ice_base.specs.declared.bit.BitAt.{BitAt}
use Rattle.ice_base.specs.Places.{same_place}
use Rattle.ice_chip.specs.Database.{SwitchRow, SwitchGroup, same_tile}
use Rattle.ice_bits.specs.Settings.{values_of, number_with, row_on}
use Rattle.ice_bits_rows.specs.Sound.{rows_on, value_at, sets, is_one}
use Rattle.ice_bits_rows.specs.Bundles.{groups_into, has_bit}
use Rattle.ice_bits_rows.specs.Own.{each_once}
use Rattle.ice_bits_rows.specs.Alone.{in_tile, on_there, listed_one}
use Rattle.ice_bits_rows.specs.Apart.{IsLone}
use Rattle.ice_bits_rows.specs.Plain.{do_differ, do_rise, is_meeting, meets_one, is_plain, AreAlone}
use Rattle.ice_bits_rows.proofs.OneOn.{on_first}
use Rattle.ice_bits_rows.proofs.Own.{no_value, own_values}
use Rattle.ice_bits_rows.proofs.Ascent.{told_apart}

-- ---- groups that have no bit of the group
no_one : (g : SwitchGroup) (r : SwitchRow) (tile : TileAt) (bits : List BitAt) → list_any (has_bit g.bits) bits ≡ false → list_any (λ v. v) (map (sets g r tile) bits) ≡ false
no_one g r tile [] e = refl
no_one g r tile (b ∷ bits) e =
    let parts = or_parts (has_bit g.bits b) (list_any (has_bit g.bits) bits) e in
    or_from (sets g r tile b) (list_any (λ v. v) (map (sets g r tile) bits)) (and_right (same_tile g.tile tile) (value_at g.bits r.values b) (no_value g.bits r.values b parts.0)) (no_one g r tile bits parts.1)

none_on : (g : SwitchGroup) (r : SwitchRow) (x : SwitchGroup) → list_any (has_bit g.bits) x.bits ≡ false → row_on (sets g r) x ≡ None
none_on g r x e = ap (λ b. cond b (number_with (values_of (sets g r) x) x.first x.rows) None) (no_one g r x.tile x.bits e)

not_there : (g : SwitchGroup) (r : SwitchRow) (x : SwitchGroup) → is_meeting g x ≡ false → on_there (sets g r) g.tile x ≡ None
not_there g r x e = by (same_tile x.tile g.tile) e
  where
    by : (b : Bool) → (b && list_any (has_bit g.bits) x.bits) ≡ false → cond b (row_on (sets g r) x) None ≡ None
    by true is = none_on g r x is
    by false is = refl

-- a group without a bit of the group, and then the others
past : (g : SwitchGroup) (r : SwitchRow) (x : SwitchGroup) (gs : List SwitchGroup) → is_meeting g x ≡ false → rows_on (sets g r) (in_tile g.tile (x ∷ gs)) ≡ rows_on (sets g r) (in_tile g.tile gs)
past g r x gs is = on_first (sets g r) g.tile x gs ∙ ap (λ o. listed_one o ++ rows_on (sets g r) (in_tile g.tile gs)) (not_there g r x is)

-- where one was met, no row of the others is on
no_more : (g : SwitchGroup) (r : SwitchRow) (gs : List SwitchGroup) → meets_one g true gs ≡ true → rows_on (sets g r) (in_tile g.tile gs) ≡ []
no_more g r [] e = refl
no_more g r (x ∷ gs) e = by (is_meeting g x) refl e (λ t. no_more g r gs t)
  where
    by : (b : Bool) → is_meeting g x ≡ b → cond (b && true) false (meets_one g (true || b) gs) ≡ true
        → (meets_one g true gs ≡ true → rows_on (sets g r) (in_tile g.tile gs) ≡ []) → rows_on (sets g r) (in_tile g.tile (x ∷ gs)) ≡ []
    by true is t rest = absurd (true≢false (sym t))
    by false is t rest = past g r x gs is ∙ rest t

-- where one was met, the group itself is not among the others
not_again : (g : SwitchGroup) (gs : List SwitchGroup) (k : ℕ) → is_meeting g g ≡ true → k < length gs → slice_index_or gs k g ≡ g → meets_one g true gs ≡ true → ⊥
not_again g [] k m lt at e = absurd (omega arith)
not_again g (x ∷ gs) zero m lt at e =
    true≢false (sym (sym (ap (λ b. cond (b && true) false (meets_one g (true || b) gs)) (ap (is_meeting g) at ∙ m)) ∙ e))
not_again g (x ∷ gs) (suc k) m lt at e = by (is_meeting g x) e (λ t. not_again g gs k m (omega arith) at t)
  where
    by : (b : Bool) → cond (b && true) false (meets_one g (true || b) gs) ≡ true → (meets_one g true gs ≡ true → ⊥) → ⊥
    by true t rest = true≢false (sym t)
    by false t rest = rest t

-- the group's row is the one that is on
alone_there : (g : SwitchGroup) (r : SwitchRow) (n : ℕ) (gs : List SwitchGroup) (k : ℕ) → is_meeting g g ≡ true → row_on (sets g r) g ≡ Some n → k < length gs → slice_index_or gs k g ≡ g
    → meets_one g false gs ≡ true → rows_on (sets g r) (in_tile g.tile gs) ≡ n ∷ []
alone_there g r n [] k m on lt at e = absurd (omega arith)
alone_there g r n (x ∷ gs) zero m on lt at e =
    let here : is_meeting g x ≡ true = ap (is_meeting g) at ∙ m in
    let others : meets_one g true gs ≡ true = sym (ap (λ b. cond (b && false) false (meets_one g (false || b) gs)) here) ∙ e in
    on_first (sets g r) g.tile x gs
    ∙ ap (λ y. listed_one (on_there (sets g r) g.tile y) ++ rows_on (sets g r) (in_tile g.tile gs)) at
    ∙ ap (λ b. listed_one (cond b (row_on (sets g r) g) None) ++ rows_on (sets g r) (in_tile g.tile gs)) (tile_self g.tile)
    ∙ ap (λ o. listed_one o ++ rows_on (sets g r) (in_tile g.tile gs)) on
    ∙ ap (λ ns. n ∷ ns) (no_more g r gs others)
alone_there g r n (x ∷ gs) (suc k) m on lt at e = by (is_meeting g x) refl e (λ t. alone_there g r n gs k m on (omega arith) at t)
  where
    by : (b : Bool) → is_meeting g x ≡ b → cond (b && false) false (meets_one g (false || b) gs) ≡ true
        → (meets_one g false gs ≡ true → rows_on (sets g r) (in_tile g.tile gs) ≡ n ∷ []) → rows_on (sets g r) (in_tile g.tile (x ∷ gs)) ≡ n ∷ []
    by true is t rest = absurd (not_again g gs k m (omega arith) at t)
    by false is t rest = past g r x gs is ∙ rest t

-- ---- the group itself
in_filter : (p : SwitchGroup → Bool) (gs : List SwitchGroup) (g : SwitchGroup) (k : ℕ) → p g ≡ true → k < length gs → slice_index_or gs k g ≡ g → Contains (filter p gs) g
in_filter p [] g k is lt at = absurd (omega arith)
in_filter p (x ∷ gs) g zero is lt at = subst (λ b. Contains (cond b (x ∷ filter p gs) (filter p gs)) g) (sym (ap p at ∙ is)) (0, omega arith, at)
in_filter p (x ∷ gs) g (suc k) is lt at = by (p x) (in_filter p gs g k is (omega arith) at)
  where
    by : (b : Bool) → Contains (filter p gs) g → Contains (cond b (x ∷ filter p gs) (filter p gs)) g
    by true c = let less = c.1 in (suc c.0, omega (arith, less), c.2)
    by false c = c

some_bit : (bits : List BitAt) (values : List Bool) → length values ≡ length bits → list_any (λ v. v) values ≡ true → list_any (has_bit bits) bits ≡ true
some_bit [] [] long one = absurd (true≢false (sym one))
some_bit [] (v ∷ values) long one = absurd (omega (arith, long))
some_bit (p ∷ bits) values long one = ap (λ b. (b || has_bit bits p) || list_any (has_bit (p ∷ bits)) bits) (place_self p)

same_bits : (bits : List BitAt) → pointwise same_place bits bits ≡ true
same_bits [] = refl
same_bits (p ∷ bits) = rw (place_self p) (same_bits bits)

own_on : (g : SwitchGroup) (r : SwitchRow) (n : ℕ) → each_once g.bits ≡ true → length r.values ≡ length g.bits → list_any (λ v. v) r.values ≡ true → number_with r.values g.first g.rows ≡ Some n
    → row_on (sets g r) g ≡ Some n
own_on g r n once long one number =
    ap (λ values. cond (list_any (λ v. v) values) (number_with values g.first g.rows) None) (own_values g r g (tile_self g.tile) long (same_bits g.bits) once)
    ∙ ap (λ b. cond b (number_with r.values g.first g.rows) None) one
    ∙ number

-- the rows of a group differ, no bit of it stands twice, and no other group of its bundle has one of its bits, if it has one
pub lone_rows : (groups : List SwitchGroup) (g : SwitchGroup) → Contains groups g → IsLone groups g → (do_rise (length g.bits) [] g.rows || do_differ (length g.bits) g.rows) ≡ true → AreAlone groups g
lone_rows groups g member lone told k r at =
    let row = told_apart (length g.bits) g.first g.rows k r told at in
    let one : list_any (λ v. v) r.values ≡ true = row.1 in
    let on : row_on (sets g r) g ≡ Some (g.first + k) = own_on g r (g.first + k) lone.0 row.0 one row.2 in
    let meets : is_meeting g g ≡ true = ap (λ b. b && list_any (has_bit g.bits) g.bits) (tile_self g.tile) ∙ some_bit g.bits r.values row.0 one in
    let inside = in_filter (λ x. x.wire == g.wire) groups g member.0 (nat_self g.wire) member.1 member.2 in
    ap (is_one (g.first + k)) (alone_there g r (g.first + k) (groups_into groups g.wire) inside.0 meets on inside.1 inside.2 (lone.1 meets)) ∙ nat_self (g.first + k)

pub plain_rows : (groups : List SwitchGroup) (g : SwitchGroup) → Contains groups g → is_plain groups g ≡ true → AreAlone groups g
plain_rows groups g member e =
    let told = do_rise (length g.bits) [] g.rows || do_differ (length g.bits) g.rows in
    let parts = and_parts (each_once g.bits && told) (meets_one g false (groups_into groups g.wire)) e in
    let own = and_parts (each_once g.bits) told parts.0 in
    lone_rows groups g member (own.0, λ meets. parts.1) own.1
