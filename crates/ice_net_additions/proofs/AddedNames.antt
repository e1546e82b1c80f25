-- Names and numbers of the signals that are added.
use Rattle.std.proofs.Common.{◌≡◌, ℕ, false, List, sym, ◌∙◌, bytes_eq, true≢false, ◌<◌, Some, [], ◌∷◌, All, suc, ◌+◌, ◌==◌, Bool, true, refl, arith, eqb-true}
use Rattle.std.proofs.lemmas.Bool.{false_from_ne_true}
use Rattle.std.proofs.lemmas.Slice.Eq.{bytes_eq-Decides}
use Rattle.std.proofs.lemmas.List.Elements.{All-nil, All-cons}
use Rattle.ice_net.specs.Formed.{IsBelow}

pub differ : (xs ys : List ℕ) → (xs ≡ ys → ⊥) → bytes_eq xs ys ≡ false
differ xs ys ne = false_from_ne_true (bytes_eq xs ys) (λ t. ne ((bytes_eq-Decides xs ys).0 t))

pub differing : (xs ys : List ℕ) → bytes_eq xs ys ≡ false → xs ≡ ys → ⊥
differing xs ys f e = true≢false (sym ((bytes_eq-Decides xs ys).1 e) ∙ f)

pub one_below : (most : ℕ) (s : ℕ) → s < most → All (IsBelow most) (Some (record { 0 = s }) ∷ [])
one_below most s lt = All-cons (IsBelow most) (Some (record { 0 = s })) [] lt (All-nil (IsBelow most))

pub other : (s t : ℕ) → s < t → (t == s) ≡ false
other s t lt = by (t == s) refl
  where
    by : (b : Bool) → (t == s) ≡ b → b ≡ false
    by true e = let same : t ≡ s = eqb-true t s e in absurd (omega arith)
    by false e = refl

pub next_number : (next j : ℕ) → next + 1 + j ≡ next + suc j
next_number next j = omega arith

pub first_number : (next : ℕ) → next ≡ next + 0
first_number next = omega arith
