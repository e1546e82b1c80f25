-- Lists of which one element is read or written.
use Rattle.std.proofs.Common.{◌≡◌, ℕ, zero, suc, ◌+◌, ◌≤◌, List, [], ◌∷◌, replicate, set, slice_index, refl, sym, ap, arith}
use mathlib.Core.Option.{some, some-ne-none}
use lib.ListN.{get_elem?}
use Rattle.std.proofs.lemmas.List.Sums.{sum_by-cons}
use Rattle.std.specs.List.{sum_by}

-- a word that is written as it was
pub set_same : (xs : List ℕ) (i : ℕ) → set xs i (slice_index xs i) ≡ xs
set_same [] i = refl
set_same (x ∷ xs) zero = refl
set_same (x ∷ xs) (suc i) = ap (λ ys. x ∷ ys) (set_same xs i)

-- a word is one of those behind the first
pub behind_first : (x : ℕ) (xs : List ℕ) (w : ℕ) → slice_index (x ∷ xs) (w + 1) ≡ slice_index xs w
behind_first x xs w = let e : w + 1 ≡ suc w = omega arith in ap (λ k. slice_index (x ∷ xs) k) e

-- words that are all 0
pub zeros_index : (n w : ℕ) → slice_index (replicate n 0) w ≡ 0
zeros_index zero w = refl
zeros_index (suc n) zero = refl
zeros_index (suc n) (suc w) = zeros_index n w

module _ {A : Type 0} where
  pub set_at : (xs : List A) (i : ℕ) (a b : A) → get_elem? xs i ≡ some a → get_elem? (set xs i b) i ≡ some b
  set_at [] i a b e = absurd (some-ne-none a (sym e))
  set_at (x ∷ xs) zero a b e = refl
  set_at (x ∷ xs) (suc i) a b e = set_at xs i a b e

  -- where a sum is not 0, some element gives something
  pub one_of : (f : A → ℕ) (xs : List A) → 1 ≤ sum_by f xs → (k : ℕ) × (a : A) × (get_elem? xs k ≡ some a) × (1 ≤ f a)
  one_of f [] some_of = absurd (omega arith)
  one_of f (x ∷ xs) some_of = here (f x) refl (one_of f xs)
    where
      here : (n : ℕ) → f x ≡ n → (1 ≤ sum_by f xs → (k : ℕ) × (a : A) × (get_elem? xs k ≡ some a) × (1 ≤ f a)) → (k : ℕ) × (a : A) × (get_elem? (x ∷ xs) k ≡ some a) × (1 ≤ f a)
      here zero none later = let t = later (omega (arith, some_of, sum_by-cons f x xs, none)) in (suc t.0, t.1, t.2, t.3)
      here (suc n) more later = (0, x, refl, omega (arith, more))

  -- what counts nothing of an element that has nothing counts nothing of those that have nothing in all
  pub nothing_of : (k p : A → ℕ) → ((a : A) → p a ≡ 0 → k a ≡ 0) → (xs : List A) → sum_by p xs ≡ 0 → sum_by k xs ≡ 0
  nothing_of k p bare [] none = refl
  nothing_of k p bare (x ∷ xs) none =
      let e = sum_by-cons p x xs in
      rw (sum_by-cons k x xs) (omega (arith, bare x (omega (arith, e, none)), nothing_of k p bare xs (omega (arith, e, none))))
