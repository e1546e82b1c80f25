-- The first number for which there is something, as the numbers are gone over.
use Rattle.std.proofs.Common.{◌≡◌, ℕ, suc, ◌+◌, ◌-◌, ◌<◌, ◌≤◌, None, Some, Option, refl, ap, ◌∙◌, arith}
use Rattle.ice_decode.specs.FirstFaults.{first_of}

module _ {A : Type 0} (f : ℕ → Option A) (count i : ℕ) where
  pub first_here : (x : A) → i < count → f i ≡ Some x → first_of f i (count - i) ≡ Some x
  first_here x lt here = ap (first_of f i) (let e : count - i ≡ suc (count - (i + 1)) = omega arith in e) ∙ rw here refl

  pub first_next : i < count → f i ≡ None → first_of f i (count - i) ≡ first_of f (i + 1) (count - (i + 1))
  first_next lt none = ap (first_of f i) (let e : count - i ≡ suc (count - (i + 1)) = omega arith in e) ∙ rw none refl

  pub first_none : count ≤ i → first_of f i (count - i) ≡ None
  first_none le = ap (first_of f i) (let e : count - i ≡ 0 = omega arith in e)
