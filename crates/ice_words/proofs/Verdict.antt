-- No overuse, no wire that two nets hold.
use Rattle.std.proofs.Common.{◌≡◌, ℕ, zero, suc, ◌-◌, ◌≤◌, ◌<◌, List, [], ◌∷◌, slice_index, false, nat_eq, true≢false, inl, inr, arith}
use Rattle.std.proofs.lemmas.Bool.{cases_lt}
use Rattle.std.proofs.lemmas.List.Sums.{sum_by-cons}
use Rattle.ice_core.specs.Routes.{overuse}

pub none_over : (counts : List ℕ) → overuse counts ≡ 0 → (w : ℕ) → slice_index counts w ≤ 1
none_over [] none w = omega arith
none_over (c ∷ counts) none zero = omega (arith, none, sum_by-cons (λ c. c - 1) c counts)
none_over (c ∷ counts) none (suc w) = none_over counts (omega (arith, none, sum_by-cons (λ c. c - 1) c counts)) w

pub some_over : (counts : List ℕ) → 1 ≤ overuse counts → (w : ℕ) × (1 < slice_index counts w)
some_over [] more = absurd (omega (arith, more))
some_over (c ∷ counts) more = elim (cases_lt 1 c) [
  | inl lt ↦ (0, omega arith)
  | inr ge ↦ (let t = some_over counts (omega (arith, more, sum_by-cons (λ c. c - 1) c counts)) in (suc t.0, t.1))
]

pub overused : (counts : List ℕ) (n : ℕ) → n ≡ overuse counts → nat_eq n 0 ≡ false → (w : ℕ) × (1 < slice_index counts w)
overused counts zero is e = absurd (true≢false e)
overused counts (suc n) is e = some_over counts (omega (arith, is))
