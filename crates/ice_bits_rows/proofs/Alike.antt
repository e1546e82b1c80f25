-- Two lists that are compared from the front.
use Rattle.std.proofs.Common.{◌≡◌, ◌≢◌, ℕ, zero, suc, ◌+◌, ◌<◌, ◌≤◌, Bool, true, false, List, [], ◌∷◌, length, drop, get_or, refl, ◌∙◌, arith}
use Rattle.std.specs.Prelude.{◌&&◌, not}
use Rattle.std.specs.Cmp.Lexicographic.{pointwise, unequal}

after : {X : Type 0} (same : X → X → Bool) (xs ys : List X) (k : ℕ) (d e : X) → k < length xs → k < length ys
    → pointwise same (drop k xs) (drop k ys) ≡ (same (get_or xs k d) (get_or ys k e) && pointwise same (drop (suc k) xs) (drop (suc k) ys))
after same [] ys k d e lt lt' = absurd (omega arith)
after same (x ∷ xs) [] k d e lt lt' = absurd (omega arith)
after same (x ∷ xs) (y ∷ ys) zero d e lt lt' = refl
after same (x ∷ xs) (y ∷ ys) (suc k) d e lt lt' = after same xs ys k d e (omega arith) (omega arith)

pub next : {X : Type 0} (same : X → X → Bool) (xs ys : List X) (k : ℕ) (d e : X) → k < length xs → k < length ys
    → pointwise same (drop k xs) (drop k ys) ≡ (same (get_or xs k d) (get_or ys k e) && pointwise same (drop (k + 1) xs) (drop (k + 1) ys))
next same xs ys k d e lt lt' = let one : k + 1 ≡ suc k = omega arith in rw one (after same xs ys k d e lt lt')

pub kept : (b rest : Bool) → not b ≡ false → (b && rest) ≡ rest
kept true rest is = refl
kept false rest is = absurd (cc)

pub end : {X : Type 0} (same : X → X → Bool) (xs ys : List X) → length xs ≡ length ys → pointwise same (drop (length xs) xs) (drop (length xs) ys) ≡ true
end same [] [] e = refl
end same [] (y ∷ ys) e = absurd (cc)
end same (x ∷ xs) [] e = absurd (cc)
end same (x ∷ xs) (y ∷ ys) e = end same xs ys (omega arith)

pub unlike : {X : Type 0} (same : X → X → Bool) (xs ys : List X) → length xs ≢ length ys → pointwise same xs ys ≡ false
unlike same xs ys e = unequal same xs ys e

-- lists that have the same item at a place
pub passed : {X : Type 0} (same : X → X → Bool) (xs ys : List X) (k : ℕ) (d e : X) → k < length xs → length xs ≡ length ys → not (same (get_or xs k d) (get_or ys k e)) ≡ false
    → pointwise same (drop k xs) (drop k ys) ≡ pointwise same (drop (k + 1) xs) (drop (k + 1) ys)
passed same xs ys k d e lt long agree =
    next same xs ys k d e lt (omega (arith, long)) ∙ kept (same (get_or xs k d) (get_or ys k e)) (pointwise same (drop (k + 1) xs) (drop (k + 1) ys)) agree

pub all : {X : Type 0} (same : X → X → Bool) (xs ys : List X) (k : ℕ) → length xs ≤ k → length xs ≡ length ys → pointwise same (drop k xs) (drop k ys) ≡ true
all same [] [] zero le e = refl
all same [] [] (suc k) le e = refl
all same [] (y ∷ ys) k le e = absurd (cc)
all same (x ∷ xs) [] k le e = absurd (cc)
all same (x ∷ xs) (y ∷ ys) zero le e = absurd (omega arith)
all same (x ∷ xs) (y ∷ ys) (suc k) le e = all same xs ys k (omega arith) (omega arith)
