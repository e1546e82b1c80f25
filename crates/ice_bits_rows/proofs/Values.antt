-- The value of a bit in a list of values.
use Rattle.std.proofs.Common.{◌≡◌, ◌≢◌, ℕ, zero, suc, ◌+◌, ◌<◌, ◌≤◌, Bool, true, false, List, [], ◌∷◌, length, drop, map, get_or, refl, sym, ap, ◌∙◌, arith}
use Rattle.std.specs.Prelude.{◌&&◌, ◌||◌, not, min}
use Rattle.std.specs.Bool.{beq}
use Rattle.std.specs.Cmp.Lexicographic.{pointwise}
use Rattle.ice_base.proofs.Booleans.{and_false}
use Rattle.ice_base.specs.declared.bit.BitAt.{BitAt}
use Rattle.ice_base.specs.Places.{same_place}
use Rattle.ice_bits_rows.specs.Sound.{value_at}
use Rattle.ice_bits_rows.proofs.Alike.{kept}

after : (bits : List BitAt) (values : List Bool) (b : BitAt) (k : ℕ) (d : BitAt) (e : Bool) → k < length bits → k < length values
    → value_at (drop k bits) (drop k values) b ≡ ((same_place (get_or bits k d) b && get_or values k e) || value_at (drop (suc k) bits) (drop (suc k) values) b)
after [] values b k d e lt lt' = absurd (omega arith)
after (p ∷ bits) [] b k d e lt lt' = absurd (omega arith)
after (p ∷ bits) (v ∷ values) b zero d e lt lt' = refl
after (p ∷ bits) (v ∷ values) b (suc k) d e lt lt' = after bits values b k d e (omega arith) (omega arith)

pub next : (bits : List BitAt) (values : List Bool) (b : BitAt) (k : ℕ) (d : BitAt) (e : Bool) → k < length bits → k < length values
    → value_at (drop k bits) (drop k values) b ≡ ((same_place (get_or bits k d) b && get_or values k e) || value_at (drop (k + 1) bits) (drop (k + 1) values) b)
next bits values b k d e lt lt' = let one : k + 1 ≡ suc k = omega arith in rw one (after bits values b k d e lt lt')

no_values : (bits : List BitAt) (b : BitAt) → value_at bits [] b ≡ false
no_values [] b = refl
no_values (p ∷ bits) b = refl

pub none : (bits : List BitAt) (values : List Bool) (b : BitAt) (k : ℕ) → min (length bits) (length values) ≤ k → value_at (drop k bits) (drop k values) b ≡ false
none [] values b zero le = refl
none [] values b (suc k) le = refl
none (p ∷ bits) [] b zero le = refl
none (p ∷ bits) [] b (suc k) le = no_values (drop k bits) b
none (p ∷ bits) (v ∷ values) b zero le = absurd (omega arith)
none (p ∷ bits) (v ∷ values) b (suc k) le = none bits values b k (omega arith)

-- a place that is not the bit's, or has the value 0, is passed over
pub passed : (bits : List BitAt) (values : List Bool) (b : BitAt) (k : ℕ) (d : BitAt) (e : Bool) → k < length bits → k < length values → false ≡ (same_place (get_or bits k d) b && get_or values k e)
    → value_at (drop k bits) (drop k values) b ≡ value_at (drop (k + 1) bits) (drop (k + 1) values) b
passed bits values b k d e lt lt' off = next bits values b k d e lt lt' ∙ ap (λ t. t || value_at (drop (k + 1) bits) (drop (k + 1) values) b) (sym off)

-- ---- whether values are those of a list of bits
alike_after : (f : BitAt → Bool) (values : List Bool) (bits : List BitAt) (k : ℕ) (v : Bool) (d : BitAt) → k < length values → k < length bits
    → pointwise beq (drop k values) (map f (drop k bits)) ≡ (beq (get_or values k v) (f (get_or bits k d)) && pointwise beq (drop (suc k) values) (map f (drop (suc k) bits)))
alike_after f [] bits k v d lt lt' = absurd (omega arith)
alike_after f (x ∷ values) [] k v d lt lt' = absurd (omega arith)
alike_after f (x ∷ values) (p ∷ bits) zero v d lt lt' = refl
alike_after f (x ∷ values) (p ∷ bits) (suc k) v d lt lt' = alike_after f values bits k v d (omega arith) (omega arith)

pub alike_next : (f : BitAt → Bool) (values : List Bool) (bits : List BitAt) (k : ℕ) (v : Bool) (d : BitAt) → k < length values → k < length bits
    → pointwise beq (drop k values) (map f (drop k bits)) ≡ (beq (get_or values k v) (f (get_or bits k d)) && pointwise beq (drop (k + 1) values) (map f (drop (k + 1) bits)))
alike_next f values bits k v d lt lt' = let one : k + 1 ≡ suc k = omega arith in rw one (alike_after f values bits k v d lt lt')

pub alike_end : (f : BitAt → Bool) (values : List Bool) (bits : List BitAt) → length values ≡ length bits → pointwise beq (drop (length values) values) (map f (drop (length values) bits)) ≡ true
alike_end f [] [] e = refl
alike_end f [] (p ∷ bits) e = absurd (cc)
alike_end f (x ∷ values) [] e = absurd (cc)
alike_end f (x ∷ values) (p ∷ bits) e = alike_end f values bits (omega arith)

pub unlike_long : (f : BitAt → Bool) (values : List Bool) (bits : List BitAt) → length values ≢ length bits → pointwise beq values (map f bits) ≡ false
unlike_long f [] [] e = absurd (e refl)
unlike_long f [] (p ∷ bits) e = refl
unlike_long f (x ∷ values) [] e = refl
unlike_long f (x ∷ values) (p ∷ bits) e = rw (unlike_long f values bits (λ same. e (ap suc same))) (and_false (beq x (f p)))

-- values of which one more is that of its bit
pub alike_passed : (f : BitAt → Bool) (values : List Bool) (bits lent : List BitAt) (k : ℕ) (v : Bool) (d : BitAt) (s : Bool) → lent ≡ bits → s ≡ f (get_or lent k d)
    → not (beq (get_or values k v) s) ≡ false → k < length values → length values ≡ length bits
    → pointwise beq (drop k values) (map f (drop k bits)) ≡ pointwise beq (drop (k + 1) values) (map f (drop (k + 1) bits))
alike_passed f values bits lent k v d s same is agree lt long =
    alike_next f values bits k v d lt (omega (arith, long))
    ∙ kept (beq (get_or values k v) (f (get_or bits k d))) (pointwise beq (drop (k + 1) values) (map f (drop (k + 1) bits)))
    (ap (λ t. not (beq (get_or values k v) t)) (sym (is ∙ ap (λ (ps : List BitAt). f (get_or ps k d)) same)) ∙ agree)

pub alike_all : (f : BitAt → Bool) (values : List Bool) (bits : List BitAt) (k : ℕ) → length values ≤ k → length values ≡ length bits → pointwise beq (drop k values) (map f (drop k bits)) ≡ true
alike_all f [] [] zero le e = refl
alike_all f [] [] (suc k) le e = refl
alike_all f [] (p ∷ bits) k le e = absurd (cc)
alike_all f (x ∷ values) [] k le e = absurd (cc)
alike_all f (x ∷ values) (p ∷ bits) zero le e = absurd (omega arith)
alike_all f (x ∷ values) (p ∷ bits) (suc k) le e = alike_all f values bits k (omega arith) (omega arith)
