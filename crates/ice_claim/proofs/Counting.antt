-- What is counted of pairs, and how one that is added or removed changes that.
use Rattle.std.proofs.Common.{◌≡◌, ◌≢◌, ℕ, ◌+◌, ◌≤◌, ◌⊎◌, List, [], ◌∷◌, Bool, true, false, cond, eq-eqb, ne_eqb, inl, inr, refl, sym, ap, arith}
use Rattle.std.proofs.lemmas.Bool.{cases_eq}
use Rattle.std.proofs.lemmas.List.Sums.{sum_by-cons}
use Rattle.std.specs.List.{sum_by, count_by}
use Rattle.ice_claim.specs.declared.view.Pair.{Pair}
use Rattle.ice_claim.specs.Claims.{pair_of, is_on, is_pair, without}

-- one pair, counted
abbrev pub bit_of : ℕ → ℕ → Pair → ℕ
bit_of n w q = cond (is_pair n w q) 1 0

abbrev pub on_of : ℕ → Pair → ℕ
on_of w q = cond (is_on w q) 1 0

pub bit_cases : (n w : ℕ) (q : Pair) → ((q.net ≡ n) × (q.wire ≡ w) × (bit_of n w q ≡ 1)) ⊎ (bit_of n w q ≡ 0)
bit_cases n w q = elim (cases_eq q.net n) [
  | inl same ↦ elim (cases_eq q.wire w) [
    | inl on ↦ inl (same, on, rw (eq-eqb q.net n same, eq-eqb q.wire w on) refl)
    | inr off ↦ inr (rw (eq-eqb q.net n same, ne_eqb q.wire w off) refl)
  ]
  | inr other ↦ inr (rw (ne_eqb q.net n other) refl)
]

pub bit_at_most : (n w : ℕ) (q : Pair) → bit_of n w q ≤ 1
bit_at_most n w q = elim (bit_cases n w q) [
  | inl here ↦ omega (arith, here.2)
  | inr none ↦ omega (arith, none)
]

pub on_itself : (n w : ℕ) → on_of w (pair_of n w) ≡ 1
on_itself n w = rw (eq-eqb w w refl) refl

pub on_other : (n w x : ℕ) → x ≢ w → on_of x (pair_of n w) ≡ 0
on_other n w x other = rw (ne_eqb w x (λ e. other (sym e))) refl

pub bit_itself : (n w : ℕ) → bit_of n w (pair_of n w) ≡ 1
bit_itself n w = rw (eq-eqb n n refl, eq-eqb w w refl) refl

-- a pair is on its wire
pub bit_on : (n w : ℕ) (q : Pair) → bit_of n w q ≤ on_of w q
bit_on n w q = elim (bit_cases n w q) [
  | inl here ↦ (let on : on_of w q ≡ 1 = rw (eq-eqb q.wire w here.1) refl in omega (arith, on, here.2))
  | inr none ↦ omega (arith, none)
]

pub pairs_on : (n w : ℕ) (qs : List Pair) → count_by (is_pair n w) qs ≤ count_by (is_on w) qs
pairs_on n w [] = omega arith
pairs_on n w (q ∷ qs) = omega (arith, sum_by-cons (bit_of n w) q qs, sum_by-cons (on_of w) q qs, bit_on n w q, pairs_on n w qs)

-- a pair on a wire is one of its own net
pub on_pair : (w : ℕ) (q : Pair) → 1 ≤ on_of w q → bit_of q.net w q ≡ 1
on_pair w q some_of = elim (cases_eq q.wire w) [
  | inl on ↦ rw (eq-eqb q.net q.net refl, eq-eqb q.wire w on) refl
  | inr off ↦ (let none : on_of w q ≡ 0 = rw (ne_eqb q.wire w off) refl in absurd (omega (arith, none, some_of)))
]

pair_is : (n w : ℕ) (q : Pair) → q.net ≡ n → q.wire ≡ w → q ≡ pair_of n w
pair_is n w q net wire = λ i. record { net = net i; wire = wire i }

-- one pair is removed
pub without_sum : (g : Pair → ℕ) (n w : ℕ) (qs : List Pair) → 1 ≤ count_by (is_pair n w) qs → sum_by g (without n w qs) + g (pair_of n w) ≡ sum_by g qs
without_sum g n w [] some_of = absurd (omega arith)
without_sum g n w (q ∷ qs) some_of = newest (is_pair n w q) refl (without_sum g n w qs)
  where
    newest : (b : Bool) → is_pair n w q ≡ b → (1 ≤ count_by (is_pair n w) qs → sum_by g (without n w qs) + g (pair_of n w) ≡ sum_by g qs) → sum_by g (cond b qs (q ∷ without n w qs)) + g (pair_of n w) ≡ sum_by g (q ∷ qs)
    newest true is later = elim (bit_cases n w q) [
      | inl here ↦ omega (arith, sum_by-cons g q qs, ap g (pair_is n w q here.0 here.1))
      | inr none ↦ (let one : bit_of n w q ≡ 1 = rw is refl in absurd (omega (arith, none, one)))
    ]
    newest false is later =
        let none : bit_of n w q ≡ 0 = rw is refl in
        omega (arith, sum_by-cons g q qs, sum_by-cons g q (without n w qs), later (omega (arith, some_of, sum_by-cons (bit_of n w) q qs, none)))
