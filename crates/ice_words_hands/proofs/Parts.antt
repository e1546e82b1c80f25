-- A hand's own part changes, and the totals with it.
use Rattle.std.proofs.Common.{◌≡◌, ℕ, ◌+◌, ◌≤◌, List, [], ◌∷◌, length, set, drop, refl, ap, arith}
use mathlib.Core.Option.{some}
use lib.ListN.{get_elem?}
use Rattle.std.proofs.lemmas.List.Sums.{sum_by-cons}
use Rattle.std.specs.List.{sum_by}
use Rattle.ice_core.proofs.Sums.{sum_set}
use Rattle.ice_words_hands.specs.Parts.{own_of, own_changed, total_in, total_of_all}

module _ {P : Type 0} where
  pub own_and_rest : (none : P) (ps : List P) → 1 ≤ length ps → ps ≡ own_of none ps ∷ drop 1 ps
  own_and_rest none [] some_part = absurd (omega arith)
  own_and_rest none (p ∷ ps) some_part = refl

  pub own_sum : (k : P → ℕ) (none : P) (f : P → P) (ps : List P) → 1 ≤ length ps → sum_by k (own_changed f ps) + k (own_of none ps) ≡ sum_by k ps + k (f (own_of none ps))
  own_sum k none f [] some_part = absurd (omega arith)
  own_sum k none f (p ∷ ps) some_part = rw (sum_by-cons k (f p) ps, sum_by-cons k p ps) (omega arith)

  pub own_at_most : (k : P → ℕ) (none : P) (ps : List P) → 1 ≤ length ps → k (own_of none ps) ≤ sum_by k ps
  own_at_most k none [] some_part = absurd (omega arith)
  own_at_most k none (p ∷ ps) some_part = omega (arith, sum_by-cons k p ps)

  pub own_length : (f : P → P) (ps : List P) → length (own_changed f ps) ≡ length ps
  own_length f [] = refl
  own_length f (p ∷ ps) = refl

  pub own_is : (none : P) (f : P → P) (ps : List P) → 1 ≤ length ps → own_of none (own_changed f ps) ≡ f (own_of none ps)
  own_is none f [] some_part = absurd (omega arith)
  own_is none f (p ∷ ps) some_part = refl

  pub no_parts : (k : P → ℕ) (ps : List P) → length ps ≡ 0 → sum_by k ps ≡ 0
  no_parts k [] le = refl
  no_parts k (p ∷ ps) le = absurd (omega arith)

-- a view v becomes w, whose own part is changed
module _ {V P : Type 0} (parts_of : V → List P) where
  pub own_total : (k : P → ℕ) (none : P) (f : P → P) (views : List V) (id : ℕ) (v w : V) → get_elem? views id ≡ some v → 1 ≤ length (parts_of v) → parts_of w ≡ own_changed f (parts_of v)
      → total_of_all parts_of k (set views id w) + k (own_of none (parts_of v)) ≡ total_of_all parts_of k views + k (f (own_of none (parts_of v)))
  own_total k none f views id v w at some_part same = omega (arith, sum_set (total_in parts_of k) views id v w at, ap (sum_by k) same, own_sum k none f (parts_of v) some_part)
