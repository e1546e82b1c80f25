-- Numbers that are drawn from a word: each below a bound is claimed once.
use Rattle.std.proofs.Common.{◌≡◌, ℕ, zero, suc, ◌+◌, ◌≤◌, ◌<◌, min, inl, inr, refl, arith, ◌%◌, ◌^◌, cond, Bool, true, false}
use Rattle.std.proofs.lemmas.Bool.{cases_lt}
use Rattle.std.proofs.Math.Nat.{mod-eq_of_lt}
use Rattle.ice_core.specs.Routes.{sum_below}
use Rattle.ice_core.proofs.Sums.{is_at, below_of, below_once}

-- the next number is claimed, where it is below the bound
pub draws_next : (n m : ℕ) (f : ℕ → ℕ) → n < m → sum_below (min (n + 1) m) f ≡ sum_below (min n m) f + f n
draws_next n m f lt = let e : min (n + 1) m ≡ suc n = omega arith in let o : min n m ≡ n = omega arith in rw (e, o) refl

-- nothing is, where it isn't
pub draws_past : (n m : ℕ) (f : ℕ → ℕ) → m ≤ n → sum_below (min (n + 1) m) f ≡ sum_below (min n m) f
draws_past n m f le = let e : min (n + 1) m ≡ m = omega arith in let o : min n m ≡ m = omega arith in rw (e, o) refl

pub draws_none : (m : ℕ) (f : ℕ → ℕ) → sum_below (min 0 m) f ≡ 0
draws_none m f = let e : min 0 m ≡ 0 = omega arith in rw e refl

-- a number that was drawn is below the word, and below the bound
pub drawn_below : (n m b : ℕ) → 1 ≤ sum_below (min n m) (is_at b) → (b < n) × (b < m)
drawn_below n m b there = let lt : b < min n m = below_of (min n m) b there in (omega arith, omega arith)

-- no number is drawn twice
pub drawn_once : (n b : ℕ) → sum_below n (is_at b) ≤ 1
drawn_once n b = elim (cases_lt b n) [
  | inl lt ↦ omega (arith, below_once n b lt)
  | inr ge ↦ none_of (sum_below n (is_at b)) (λ more. (let lt : b < n = below_of n b more in omega arith))
]
  where
    none_of : (k : ℕ) → (1 ≤ k → ⊥) → k ≤ 1
    none_of zero never = omega arith
    none_of (suc k) never = absurd (never (omega arith))

-- the next number is no remainder
pub next_number : (n : ℕ) → n ≤ 131072 → (n + 1) % 2 ^ 64 ≡ n + 1
next_number n le = let lt : n + 1 < 2 ^ 64 = omega arith in mod-eq_of_lt lt

-- a hand ends once
pub one_end : (b : Bool) → cond b 1 0 ≤ 1
one_end true = omega arith
one_end false = omega arith

-- a number is not on both sides of a bound
pub clash : (n a b : ℕ) → a ≡ b → n < b → a ≤ n → ⊥
clash n a b e lt le = absurd (omega arith)
