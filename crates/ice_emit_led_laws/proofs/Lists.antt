-- Items of lists that are made of lists.
use Rattle.std.proofs.Common.{ℕ, zero, suc, List, [], ◌∷◌, inl, inr, refl, sym, subst}
use Rattle.std.specs.Prelude.{flat_map}
use Rattle.std.proofs.lemmas.Option.{none-some, same_Some}
use Rattle.ice_base_values.specs.Order.{At, Has}
use Rattle.ice_base_values.proofs.Members.{Has_none}
use Rattle.ice_decode.proofs.Members.{Has_left, Has_right, Has_append_cases}

pub Has_flat : {X Y : Type 0} (f : X → List Y) (xs : List X) (i : ℕ) (x : X) (y : Y) → At xs i x → Has (f x) y → Has (flat_map f xs) y
Has_flat f [] i x y at has = absurd (none-some x at)
Has_flat {X} {Y} f (z ∷ xs) zero x y at has = Has_left (f z) (flat_map f xs) y (subst (λ (w : X). Has (f w) y) (sym (same_Some z x at)) has)
Has_flat f (z ∷ xs) (suc i) x y at has = Has_right (f z) (flat_map f xs) y (Has_flat f xs i x y at has)

pub flat_Has : {X Y : Type 0} (f : X → List Y) (xs : List X) (y : Y) → Has (flat_map f xs) y → (i : ℕ) × (x : X) × At xs i x × Has (f x) y
flat_Has f [] y has = absurd (Has_none y has)
flat_Has f (z ∷ xs) y has = elim (Has_append_cases (f z) (flat_map f xs) y has) [
  | inl here ↦ (0, z, refl, here)
  | inr there ↦ let got = flat_Has f xs y there in (suc got.0, got.1, got.2, got.3)
]
