-- The values of a row in the bits of its own group, where none of these stands twice.
use Rattle.std.proofs.Common.{◌≡◌, ℕ, ◌+◌, ◌<◌, ◌≤◌, nat_lt, Bool, true, false, cond, List, [], ◌∷◌, length, map, refl, ap, sym, ◌∙◌, arith, true≢false}
use Rattle.std.specs.Prelude.{◌&&◌, ◌||◌, not}
use Rattle.std.specs.Cmp.Lexicographic.{pointwise}
use Rattle.std.proofs.lemmas.Bool.{and_parts, and_left, or_parts, or_from, ltb-false}
use Rattle.ice_base.proofs.Keys.{place_self, place_same}
use Rattle.ice_base.specs.declared.bit.BitAt.{BitAt}
use Rattle.ice_base.specs.Places.{same_tile, same_place}
use Rattle.ice_chip.specs.Database.{SwitchRow, SwitchGroup}
use Rattle.ice_bits.specs.Settings.{values_of}
use Rattle.ice_bits_rows.specs.Bundles.{has_bit}
use Rattle.ice_bits_rows.specs.Own.{each_once, place_code, rises_from}
use Rattle.ice_bits_rows.specs.Sound.{value_at, sets}

-- lists that agree place by place are one list
same_bits : (bits others : List BitAt) → pointwise same_place bits others ≡ true → bits ≡ others
same_bits [] [] e = refl
same_bits [] (q ∷ others) e = absurd (true≢false (sym e))
same_bits (p ∷ bits) [] e = absurd (true≢false (sym e))
same_bits (p ∷ bits) (q ∷ others) e =
    let parts = and_parts (same_place p q) (pointwise same_place bits others) e in
    ap (λ (x : BitAt). x ∷ bits) (place_same p q parts.0) ∙ ap (λ xs. q ∷ xs) (same_bits bits others parts.1)

same_flip : (p q : BitAt) → same_place p q ≡ false → same_place q p ≡ false
same_flip p q e = by (same_place q p) refl
  where
    by : (b : Bool) → same_place q p ≡ b → b ≡ false
    by false is = refl
    by true is = absurd (true≢false (sym (ap (λ (x : BitAt). same_place x q) (sym (place_same q p is)) ∙ place_self q) ∙ e))

-- a bit that isn't in the list has no value there
pub no_value : (bits : List BitAt) (values : List Bool) (b : BitAt) → has_bit bits b ≡ false → value_at bits values b ≡ false
no_value [] values b e = refl
no_value (p ∷ bits) [] b e = refl
no_value (p ∷ bits) (v ∷ values) b e =
    let parts = or_parts (same_place p b) (has_bit bits b) e in
    or_from (same_place p b && v) (value_at bits values b) (and_left (same_place p b) v parts.0) (no_value bits values b parts.1)

-- the values of other bits than the first
later_values : (p : BitAt) (v : Bool) (bits : List BitAt) (values : List Bool) (some : List BitAt) → has_bit some p ≡ false → map (value_at (p ∷ bits) (v ∷ values)) some ≡ map (value_at bits values) some
later_values p v bits values [] e = refl
later_values p v bits values (q ∷ some) e =
    let parts = or_parts (same_place q p) (has_bit some p) e in
    ap (λ x. ((x && v) || value_at bits values q) ∷ map (value_at (p ∷ bits) (v ∷ values)) some) (same_flip q p parts.0)
    ∙ ap (λ xs. value_at bits values q ∷ xs) (later_values p v bits values some parts.1)

or_itself : (v rest : Bool) → rest ≡ false → ((true && v) || rest) ≡ v
or_itself true rest e = refl
or_itself false rest e = e

risen : (b rest : Bool) → cond b false rest ≡ true → (b ≡ false) × (rest ≡ true)
risen true rest e = absurd (true≢false (sym e))
risen false rest e = (refl, e)

-- bits with higher numbers are others
above : (low : ℕ) (bits : List BitAt) (p : BitAt) → rises_from low bits ≡ true → place_code p < low → has_bit bits p ≡ false
above low [] p e lt = refl
above low (q ∷ bits) p e lt =
    let parts = risen (nat_lt (place_code q) low) (rises_from (place_code q + 1) bits) e in
    let le : low ≤ place_code q = ltb-false (place_code q) low parts.0 in
    or_from (same_place q p) (has_bit bits p) (apart (same_place q p) refl (omega (arith, le, lt))) (above (place_code q + 1) bits p parts.1 (omega (arith, le, lt)))
  where
    apart : (s : Bool) → same_place q p ≡ s → place_code p < place_code q → s ≡ false
    apart false is less = refl
    apart true is less = (let same : place_code q ≡ place_code p = ap place_code (place_same q p is) in absurd (omega (arith, same, less)))

-- bits that rise stand once
pub rises_once : (low : ℕ) (bits : List BitAt) → rises_from low bits ≡ true → each_once bits ≡ true
rises_once low [] e = refl
rises_once low (p ∷ bits) e =
    let parts = risen (nat_lt (place_code p) low) (rises_from (place_code p + 1) bits) e in
    let once : has_bit bits p ≡ false = above (place_code p + 1) bits p parts.1 (omega arith) in
    rw once (rises_once (place_code p + 1) bits parts.1)

off : (b : Bool) → not b ≡ true → b ≡ false
off true e = absurd (true≢false (sym e))
off false e = refl

values_again : (bits : List BitAt) (values : List Bool) → each_once bits ≡ true → length values ≡ length bits → map (value_at bits values) bits ≡ values
values_again [] [] e long = refl
values_again [] (v ∷ values) e long = absurd (omega (arith, long))
values_again (p ∷ bits) [] e long = absurd (omega (arith, long))
values_again (p ∷ bits) (v ∷ values) e long =
    let parts = and_parts (not (has_bit bits p)) (each_once bits) e in
    let once : has_bit bits p ≡ false = off (has_bit bits p) parts.0 in
    ap (λ x. ((x && v) || value_at bits values p) ∷ map (value_at (p ∷ bits) (v ∷ values)) bits) (place_self p)
    ∙ ap (λ x. x ∷ map (value_at (p ∷ bits) (v ∷ values)) bits) (or_itself v (value_at bits values p) (no_value bits values p once))
    ∙ ap (λ xs. v ∷ xs) (later_values p v bits values bits once ∙ values_again bits values parts.1 (omega (arith, long)))

all_there : (same : Bool) (f : BitAt → Bool) (bits : List BitAt) → same ≡ true → map (λ b. same && f b) bits ≡ map f bits
all_there same f bits e = ap (λ x. map (λ b. x && f b) bits) e

pub own_values : (g : SwitchGroup) (r : SwitchRow) (other : SwitchGroup) → same_tile g.tile other.tile ≡ true → length r.values ≡ length g.bits → pointwise same_place g.bits other.bits ≡ true → each_once g.bits ≡ true
    → values_of (sets g r) other ≡ r.values
own_values g r other tile long same once =
    all_there (same_tile g.tile other.tile) (value_at g.bits r.values) other.bits tile
    ∙ ap (map (value_at g.bits r.values)) (sym (same_bits g.bits other.bits same))
    ∙ values_again g.bits r.values once long
