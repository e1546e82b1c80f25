-- How often a number stands in a list.
use Rattle.std.proofs.Common.{◌≡◌, ◌⊎◌, ℕ, zero, suc, ◌+◌, ◌<◌, ◌≤◌, Bool, true, false, Some, List, [], ◌∷◌, ◌++◌, refl, ap, sym, ◌∙◌, arith, inl, inr}
use Rattle.std.specs.Prelude.{◌==◌, IsPermutation}
use Rattle.std.specs.List.{range_with_len, sum_by}
use Rattle.std.proofs.lemmas.Bool.{eq-eqb, ne_eqb, cases_eq, cases_lt}
use Rattle.std.proofs.lemmas.List.Sorted.{sum_by-IsPermutation}
use Rattle.std.proofs.lemmas.List.Sums.{sum_by-cons}
use Rattle.std.proofs.lemmas.Option.{none-some, same_Some}
use Rattle.ice_base_values.specs.Order.{At, Has, StandOnce}

abbrev pub one_if : Bool → ℕ
one_if true = 1
one_if false = 0

abbrev pub tally : ℕ → List ℕ → ℕ
tally c [] = 0
tally c (x ∷ xs) = one_if (x == c) + tally c xs

-- ---- numbers
pub nothing_before : (n : ℕ) → n ≡ 0 + n
nothing_before n = omega arith

shift : (o m a b : ℕ) → m ≡ a + b → o + m ≡ o + a + b
shift o m a b e = omega arith

in_front : (o r : ℕ) → o ≡ 1 → 1 ≤ o + r
in_front o r e = omega arith

behind : (o r : ℕ) → 1 ≤ r → 1 ≤ o + r
behind o r le = omega arith

too_many : (o r : ℕ) → o ≡ 1 → 1 ≤ r → o + r ≤ 1 → ⊥
too_many o r e le few = omega arith

fewer : (o r : ℕ) → o + r ≤ 1 → r ≤ 1
fewer o r le = omega arith

no_more : (o r : ℕ) → o ≡ 0 → r ≡ 0 → o + r ≡ 0
no_more o r e f = omega arith

one_in_front : (o r : ℕ) → o ≡ 1 → r ≡ 0 → o + r ≡ 1
one_in_front o r e f = omega arith

one_behind : (o r : ℕ) → o ≡ 0 → r ≡ 1 → o + r ≡ 1
one_behind o r e f = omega arith

pub never_next : (i : ℕ) → 0 ≡ suc i → ⊥
never_next i e = omega arith

pub before_it : (i j : ℕ) → suc i ≡ suc j → i ≡ j
before_it i j e = omega arith

here : (x c : ℕ) → x ≡ c → one_if (x == c) ≡ 1
here x c e = ap one_if (eq-eqb x c e)

elsewhere : (x c : ℕ) → (x ≡ c → ⊥) → one_if (x == c) ≡ 0
elsewhere x c ne = ap one_if (ne_eqb x c ne)

-- ---- lists
pub tally_append : (c : ℕ) (a b : List ℕ) → tally c (a ++ b) ≡ tally c a + tally c b
tally_append c [] b = nothing_before (tally c b)
tally_append c (x ∷ a) b = shift (one_if (x == c)) (tally c (a ++ b)) (tally c a) (tally c b) (tally_append c a b)

tally_sum : (c : ℕ) (xs : List ℕ) → tally c xs ≡ sum_by (λ x. one_if (x == c)) xs
tally_sum c [] = refl
tally_sum c (x ∷ xs) = ap (λ n. one_if (x == c) + n) (tally_sum c xs) ∙ sym (sum_by-cons (λ x. one_if (x == c)) x xs)

-- an order of a list has each number as often
pub tally_permuted : (c : ℕ) (xs ys : List ℕ) → IsPermutation xs ys → tally c ys ≡ tally c xs
tally_permuted c xs ys moved = tally_sum c ys ∙ sum_by-IsPermutation (λ x. one_if (x == c)) xs ys moved ∙ sym (tally_sum c xs)

pub at_tally : (c : ℕ) (xs : List ℕ) (i : ℕ) → At xs i c → 1 ≤ tally c xs
at_tally c [] i at = absurd (none-some c at)
at_tally c (x ∷ xs) zero at = in_front (one_if (x == c)) (tally c xs) (here x c (same_Some x c at))
at_tally c (x ∷ xs) (suc i) at = behind (one_if (x == c)) (tally c xs) (at_tally c xs i at)

-- what stands once at most stands at one place
pub one_place : (c : ℕ) (xs : List ℕ) (i j : ℕ) → At xs i c → At xs j c → tally c xs ≤ 1 → i ≡ j
one_place c [] i j a b le = absurd (none-some c a)
one_place c (x ∷ xs) zero zero a b le = refl
one_place c (x ∷ xs) zero (suc j) a b le = absurd (too_many (one_if (x == c)) (tally c xs) (here x c (same_Some x c a)) (at_tally c xs j b) le)
one_place c (x ∷ xs) (suc i) zero a b le = absurd (too_many (one_if (x == c)) (tally c xs) (here x c (same_Some x c b)) (at_tally c xs i a) le)
one_place c (x ∷ xs) (suc i) (suc j) a b le = ap suc (one_place c xs i j a b (fewer (one_if (x == c)) (tally c xs) le))

pub has_tally : (c : ℕ) (xs : List ℕ) → (tally c xs ≡ 0) ⊎ Has xs c
has_tally c [] = inl refl
has_tally c (x ∷ xs) = by (cases_eq x c) (has_tally c xs)
  where
    by : (x ≡ c) ⊎ (x ≡ c → ⊥) → (tally c xs ≡ 0) ⊎ Has xs c → (tally c (x ∷ xs) ≡ 0) ⊎ Has (x ∷ xs) c
    by (inl e) rest = inr (0, ap Some e)
    by (inr ne) (inr (i, at)) = inr (suc i, at)
    by (inr ne) (inl none) = inl (no_more (one_if (x == c)) (tally c xs) (elsewhere x c ne) none)

once_rest : (x : ℕ) (xs : List ℕ) → StandOnce (x ∷ xs) → StandOnce xs
once_rest x xs once i j p a b = before_it i j (once (suc i) (suc j) p a b)

pub once_tally : (c : ℕ) (xs : List ℕ) (i : ℕ) → StandOnce xs → At xs i c → tally c xs ≡ 1
once_tally c [] i once at = absurd (none-some c at)
once_tally c (x ∷ xs) zero once at = by (has_tally c xs)
  where
    by : (tally c xs ≡ 0) ⊎ Has xs c → tally c (x ∷ xs) ≡ 1
    by (inl none) = one_in_front (one_if (x == c)) (tally c xs) (here x c (same_Some x c at)) none
    by (inr (j, again)) = absurd (never_next j (once 0 (suc j) c at again))
once_tally c (x ∷ xs) (suc i) once at =
    one_behind (one_if (x == c)) (tally c xs) (elsewhere x c (λ e. never_next i (once 0 (suc i) c (ap Some e) at))) (once_tally c xs i (once_rest x xs once) at)

-- ---- numbers in a row
low_tally : (c n a : ℕ) → c < a → tally c (range_with_len a n) ≡ 0
low_tally c zero a lt = refl
low_tally c (suc n) a lt =
    no_more (one_if (a == c)) (tally c (range_with_len (a + 1) n)) (elsewhere a c (λ e. absurd (omega arith))) (low_tally c n (a + 1) (omega arith))

pub row_tally : (c n a : ℕ) → a ≤ c → c < a + n → tally c (range_with_len a n) ≡ 1
row_tally c zero a le lt = absurd (omega arith)
row_tally c (suc n) a le lt = by (cases_eq a c) (row_tally c n (a + 1))
  where
    by : (a ≡ c) ⊎ (a ≡ c → ⊥) → (a + 1 ≤ c → c < a + 1 + n → tally c (range_with_len (a + 1) n) ≡ 1) → tally c (range_with_len a (suc n)) ≡ 1
    by (inl e) rest = one_in_front (one_if (a == c)) (tally c (range_with_len (a + 1) n)) (here a c e) (low_tally c n (a + 1) (omega arith))
    by (inr ne) rest = one_behind (one_if (a == c)) (tally c (range_with_len (a + 1) n)) (elsewhere a c ne) (rest (next_below a c ne le) (omega arith))
      where
        next_below : (a c : ℕ) → (a ≡ c → ⊥) → a ≤ c → a + 1 ≤ c
        next_below a c ne le = elim (cases_lt a c) [
          | inl less ↦ omega arith
          | inr more ↦ absurd (ne (omega arith))
        ]

pub high_tally : (c n a : ℕ) → a + n ≤ c → tally c (range_with_len a n) ≡ 0
high_tally c zero a le = refl
high_tally c (suc n) a le =
    no_more (one_if (a == c)) (tally c (range_with_len (a + 1) n)) (elsewhere a c (λ e. absurd (omega arith))) (high_tally c n (a + 1) (omega arith))
