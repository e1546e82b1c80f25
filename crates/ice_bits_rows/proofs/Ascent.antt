-- Rows whose values rise or differ.
use Rattle.std.proofs.Common.{◌≡◌, ℕ, zero, suc, ◌+◌, ◌<◌, ◌≤◌, Bool, true, false, cond, List, [], ◌∷◌, Some, length, map, drop, get_or, slice_get, refl, sym, ap, subst, ◌∙◌, arith, true≢false}
use Rattle.std.specs.Prelude.{◌&&◌, ◌||◌, ◌==◌, not, min}
use Rattle.std.specs.Bool.{beq}
use Rattle.std.specs.List.{list_any}
use Rattle.std.specs.Cmp.Lexicographic.{pointwise}
use Rattle.std.proofs.lemmas.Bool.{and_parts, or_parts}
use Rattle.std.proofs.lemmas.List.{at_drop_more}
use Rattle.ice_base.proofs.Keys.{nat_same}
use Rattle.ice_base.specs.declared.bit.BitAt.{BitAt}
use Rattle.ice_chip.specs.Database.{SwitchRow}
use Rattle.ice_chip.specs.Views.{row_view}
use Rattle.ice_chip.specs.declared.sections.Row.{Row}
use Rattle.ice_bits.specs.Settings.{number_with}
use Rattle.ice_bits_rows.specs.Bundles.{has_bit}
use Rattle.ice_bits_rows.specs.Own.{each_once}
use Rattle.ice_bits_rows.specs.Plain.{differs, do_differ, do_rise, has_again, is_above}

-- ---- two lists of values that are compared from the front
after : (values others : List Bool) (k : ℕ) (d e : Bool) → k < length values → k < length others
    → is_above (drop k values) (drop k others) ≡ cond (beq (get_or values k d) (get_or others k e)) (is_above (drop (suc k) values) (drop (suc k) others)) (get_or values k d)
after [] others k d e lt lt' = absurd (omega arith)
after (v ∷ values) [] k d e lt lt' = absurd (omega arith)
after (v ∷ values) (o ∷ others) zero d e lt lt' = refl
after (v ∷ values) (o ∷ others) (suc k) d e lt lt' = after values others k d e (omega arith) (omega arith)

pub above_next : (values others : List Bool) (k : ℕ) (d e : Bool) → k < length values → k < length others
    → is_above (drop k values) (drop k others) ≡ cond (beq (get_or values k d) (get_or others k e)) (is_above (drop (k + 1) values) (drop (k + 1) others)) (get_or values k d)
above_next values others k d e lt lt' = let one : k + 1 ≡ suc k = omega arith in rw one (after values others k d e lt lt')

goes_on : (b rest v : Bool) → not b ≡ false → cond b rest v ≡ rest
goes_on true rest v is = refl
goes_on false rest v is = absurd (cc)

-- a place at which both are the same is passed over
pub above_passed : (values others : List Bool) (k : ℕ) (d e : Bool) → k < length values → k < length others → not (beq (get_or values k d) (get_or others k e)) ≡ false
    → is_above (drop k values) (drop k others) ≡ is_above (drop (k + 1) values) (drop (k + 1) others)
above_passed values others k d e lt lt' agree =
    above_next values others k d e lt lt'
    ∙ goes_on (beq (get_or values k d) (get_or others k e)) (is_above (drop (k + 1) values) (drop (k + 1) others)) (get_or values k d) agree

pub above_none : (values : List Bool) → is_above values [] ≡ list_any (λ x. x) values
above_none [] = refl
above_none (v ∷ values) = refl

pub above_end : (values others : List Bool) (k : ℕ) → min (length values) (length others) ≤ k → is_above (drop k values) (drop k others) ≡ list_any (λ x. x) (drop k values)
above_end [] others zero le = refl
above_end [] others (suc k) le = refl
above_end (v ∷ values) [] zero le = refl
above_end (v ∷ values) [] (suc k) le = above_none (drop k values)
above_end (v ∷ values) (o ∷ others) zero le = absurd (omega arith)
above_end (v ∷ values) (o ∷ others) (suc k) le = above_end values others k (omega arith)

-- ---- what stands above
above_again : (a b c : List Bool) → is_above a b ≡ true → is_above b c ≡ true → is_above a c ≡ true
above_again [] b c e f = absurd (true≢false (sym e))
above_again (x ∷ a) [] c e f = absurd (true≢false (sym f))
above_again (true ∷ a) (y ∷ b) [] e f = refl
above_again (false ∷ a) (true ∷ b) [] e f = absurd (true≢false (sym e))
above_again (false ∷ a) (false ∷ b) [] e f = sym (above_none a) ∙ above_again a b [] e (above_none b ∙ f)
above_again (true ∷ a) (true ∷ b) (true ∷ c) e f = above_again a b c e f
above_again (true ∷ a) (y ∷ b) (false ∷ c) e f = refl
above_again (true ∷ a) (false ∷ b) (true ∷ c) e f = absurd (true≢false (sym f))
above_again (false ∷ a) (true ∷ b) (z ∷ c) e f = absurd (true≢false (sym e))
above_again (false ∷ a) (false ∷ b) (true ∷ c) e f = absurd (true≢false (sym f))
above_again (false ∷ a) (false ∷ b) (false ∷ c) e f = above_again a b c e f

differ : (a b : List Bool) → is_above a b ≡ true → pointwise beq b a ≡ false
differ [] b e = absurd (true≢false (sym e))
differ (x ∷ a) [] e = refl
differ (true ∷ a) (true ∷ b) e = differ a b e
differ (true ∷ a) (false ∷ b) e = refl
differ (false ∷ a) (true ∷ b) e = absurd (true≢false (sym e))
differ (false ∷ a) (false ∷ b) e = differ a b e

alike : (a : List Bool) → pointwise beq a a ≡ true
alike [] = refl
alike (true ∷ a) = alike a
alike (false ∷ a) = alike a

-- a row among those that rise: it has so many values, they stand above those before the first, and it is the first with them
pub risen : (count n : ℕ) (low : List Bool) (rows : List SwitchRow) (k : ℕ) (r : SwitchRow) → do_rise count low rows ≡ true → slice_get rows k ≡ Some r
    → (length r.values ≡ count) × (is_above r.values low ≡ true) × (number_with r.values n rows ≡ Some (n + k))
risen count n low [] k r e at = absurd (cc)
risen count n low (x ∷ rows) zero r e at =
    let same : x ≡ r = cc at in
    let parts = and_parts ((length x.values == count) && is_above x.values low) (do_rise count x.values rows) e in
    let first = and_parts (length x.values == count) (is_above x.values low) parts.0 in
    let here : n ≡ n + 0 = omega arith in
    subst (λ (y : SwitchRow). (length y.values ≡ count) × (is_above y.values low ≡ true) × (number_with y.values n (x ∷ rows) ≡ Some (n + 0))) same
    (nat_same (length x.values) count first.0, first.1, ap (λ b. cond b (Some n) (number_with x.values (n + 1) rows)) (alike x.values) ∙ ap Some here)
risen count n low (x ∷ rows) (suc k) r e at =
    let parts = and_parts ((length x.values == count) && is_above x.values low) (do_rise count x.values rows) e in
    let first = and_parts (length x.values == count) (is_above x.values low) parts.0 in
    let later = risen count (n + 1) x.values rows k r parts.1 at in
    let there : (n + 1) + k ≡ n + suc k = omega arith in
    (later.0, above_again r.values x.values low later.1 first.1, ap (λ b. cond b (Some n) (number_with r.values (n + 1) rows)) (differ r.values x.values later.1) ∙ later.2 ∙ ap Some there)

-- ---- rows whose values differ
none_at : (test : SwitchRow → Bool) (rows : List SwitchRow) (k : ℕ) (r : SwitchRow) → list_any test rows ≡ false → slice_get rows k ≡ Some r → test r ≡ false
none_at test [] k r e at = absurd (cc)
none_at test (x ∷ rows) zero r e at = let same : x ≡ r = cc at in ap test (sym same) ∙ (or_parts (test x) (list_any test rows) e).0
none_at test (x ∷ rows) (suc k) r e at = none_at test rows k r (or_parts (test x) (list_any test rows) e).1 at

off : (b : Bool) → not b ≡ true → b ≡ false
off true e = absurd (true≢false (sym e))
off false e = refl

differing : (count n : ℕ) (rows : List SwitchRow) (k : ℕ) (r : SwitchRow) → do_differ count rows ≡ true → slice_get rows k ≡ Some r
    → (length r.values ≡ count) × (list_any (λ v. v) r.values ≡ true) × (number_with r.values n rows ≡ Some (n + k))
differing count n [] k r e at = absurd (cc)
differing count n (x ∷ rows) zero r e at =
    let same : x ≡ r = cc at in
    let parts = and_parts (differs count x rows) (do_differ count rows) e in
    let first = and_parts ((length x.values == count) && list_any (λ v. v) x.values) (not (has_again x.values rows)) parts.0 in
    let own = and_parts (length x.values == count) (list_any (λ v. v) x.values) first.0 in
    let here : n ≡ n + 0 = omega arith in
    subst (λ (y : SwitchRow). (length y.values ≡ count) × (list_any (λ v. v) y.values ≡ true) × (number_with y.values n (x ∷ rows) ≡ Some (n + 0))) same
    (nat_same (length x.values) count own.0, own.1, ap (λ b. cond b (Some n) (number_with x.values (n + 1) rows)) (alike x.values) ∙ ap Some here)
differing count n (x ∷ rows) (suc k) r e at =
    let parts = and_parts (differs count x rows) (do_differ count rows) e in
    let first = and_parts ((length x.values == count) && list_any (λ v. v) x.values) (not (has_again x.values rows)) parts.0 in
    let other : pointwise beq x.values r.values ≡ false = none_at (λ o. pointwise beq x.values o.values) rows k r (off (has_again x.values rows) first.1) at in
    let later = differing count (n + 1) rows k r parts.1 at in
    let there : (n + 1) + k ≡ n + suc k = omega arith in
    (later.0, later.1, ap (λ b. cond b (Some n) (number_with r.values (n + 1) rows)) other ∙ later.2 ∙ ap Some there)

-- a row among those that rise or differ
pub told_apart : (count n : ℕ) (rows : List SwitchRow) (k : ℕ) (r : SwitchRow) → (do_rise count [] rows || do_differ count rows) ≡ true → slice_get rows k ≡ Some r
    → (length r.values ≡ count) × (list_any (λ v. v) r.values ≡ true) × (number_with r.values n rows ≡ Some (n + k))
told_apart count n rows k r e at = by (do_rise count [] rows) refl e
  where
    by : (rise : Bool) → do_rise count [] rows ≡ rise → (rise || do_differ count rows) ≡ true
        → (length r.values ≡ count) × (list_any (λ v. v) r.values ≡ true) × (number_with r.values n rows ≡ Some (n + k))
    by true is all = let row = risen count n [] rows k r is at in (row.0, sym (above_none r.values) ∙ row.1, row.2)
    by false is all = differing count n rows k r all at

-- ---- loops over rows and bits
pub differ_on : (count : ℕ) (rows : List Row) (k : ℕ) (d : Row) → k < length rows → differs count (row_view (get_or rows k d)) (map row_view (drop (k + 1) rows)) ≡ true
    → do_differ count (map row_view (drop k rows)) ≡ do_differ count (map row_view (drop (k + 1) rows))
differ_on count rows k d lt is =
    at_drop_more (λ (rs : List Row). do_differ count (map row_view rs)) rows k d lt
    ∙ ap (λ b. b && do_differ count (map row_view (drop (k + 1) rows))) is

pub differ_not : (count : ℕ) (rows : List Row) (k : ℕ) (d : Row) → k < length rows → differs count (row_view (get_or rows k d)) (map row_view (drop (k + 1) rows)) ≡ false
    → do_differ count (map row_view (drop k rows)) ≡ false
differ_not count rows k d lt is =
    at_drop_more (λ (rs : List Row). do_differ count (map row_view rs)) rows k d lt
    ∙ ap (λ b. b && do_differ count (map row_view (drop (k + 1) rows))) is

pub once_on : (bits : List BitAt) (k : ℕ) (d : BitAt) → k < length bits → has_bit (drop (k + 1) bits) (get_or bits k d) ≡ false → each_once (drop k bits) ≡ each_once (drop (k + 1) bits)
once_on bits k d lt is = at_drop_more each_once bits k d lt ∙ ap (λ b. not b && each_once (drop (k + 1) bits)) is

pub once_not : (bits : List BitAt) (k : ℕ) (d : BitAt) → k < length bits → has_bit (drop (k + 1) bits) (get_or bits k d) ≡ true → each_once (drop k bits) ≡ false
once_not bits k d lt is = at_drop_more each_once bits k d lt ∙ ap (λ b. not b && each_once (drop (k + 1) bits)) is
