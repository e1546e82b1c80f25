-- The first number that passes a test, as the numbers are gone over.
use Rattle.std.proofs.Common.{◌≡◌, ℕ, suc, ◌+◌, ◌-◌, ◌<◌, ◌≤◌, Bool, true, false, None, Some, refl, ap, ◌∙◌, arith, zero, inl, inr, sym, if◌then◌else◌, true≢false}
use Rattle.std.proofs.lemmas.Bool.{cases_lt}
use Rattle.std.proofs.lemmas.Option.{none-some}
use Rattle.ice_check.specs.Faults.{first_number}

module _ (test : ℕ → Bool) (count i : ℕ) where
  pub first_here : first_number test 0 count ≡ first_number test i (count - i) → i < count → test i ≡ true → first_number test 0 count ≡ Some i
  first_here h lt pass = h ∙ ap (first_number test i) (let e : count - i ≡ suc (count - (i + 1)) = omega arith in e) ∙ rw pass refl

  pub first_next : first_number test 0 count ≡ first_number test i (count - i) → i < count → test i ≡ false
      → first_number test 0 count ≡ first_number test (i + 1) (count - (i + 1))
  first_next h lt fail = h ∙ ap (first_number test i) (let e : count - i ≡ suc (count - (i + 1)) = omega arith in e) ∙ rw fail refl

  pub first_none : first_number test 0 count ≡ first_number test i (count - i) → count ≤ i → first_number test 0 count ≡ None
  first_none h le = h ∙ ap (first_number test i) (let e : count - i ≡ 0 = omega arith in e)

pub never : (test : ℕ → Bool) (k count j : ℕ) → first_number test k count ≡ None → k ≤ j → j < k + count → test j ≡ true → ⊥
never test k zero j none le lt on = absurd (omega (arith, le, lt))
never test k (suc count) j none le lt on = by (test k) refl none (never test (k + 1) count j)
  where
    by : (b : Bool) → test k ≡ b → (if b then Some k else first_number test (k + 1) count) ≡ None
        → (first_number test (k + 1) count ≡ None → k + 1 ≤ j → j < k + 1 + count → test j ≡ true → ⊥) → ⊥
    by true is e rest = none-some k (sym e)
    by false is e rest = elim (cases_lt k j) [
      | inl further ↦ rest e (omega (arith, further)) (omega (arith, lt)) on
      | inr here ↦ (let same : k ≡ j = omega (arith, here, le) in true≢false (sym on ∙ ap test (sym same) ∙ is))
    ]

pub all_pass : (test : ℕ → Bool) (k count : ℕ) → ((j : ℕ) → k ≤ j → j < k + count → test j ≡ true → ⊥) → first_number test k count ≡ None
all_pass test k zero none = refl
all_pass test k (suc count) none = by (test k) refl (all_pass test (k + 1) count (λ j le lt. none j (omega (arith, le)) (omega (arith, lt))))
  where
    here : test k ≡ true → ⊥
    here on = none k (omega arith) (omega arith) on

    by : (b : Bool) → test k ≡ b → first_number test (k + 1) count ≡ None → (if b then Some k else first_number test (k + 1) count) ≡ None
    by true is rest = absurd (here is)
    by false is rest = rest

pub pass_all : (test : ℕ → Bool) (count : ℕ) → ((j : ℕ) → j < count → test j ≡ true → ⊥) → first_number test 0 count ≡ None
pass_all test count none = all_pass test 0 count (λ j le lt on. none j (let l : j < 0 + count = lt in omega (arith, l)) on)

-- the same from 0 on
pub none_of : (test : ℕ → Bool) (count j : ℕ) → first_number test 0 count ≡ None → j < count → test j ≡ true → ⊥
none_of test count j none lt on = never test 0 count j none (omega arith) (omega (arith, lt)) on
