-- Lists in which nothing stands twice, made of others.
use Rattle.std.proofs.Common.{◌≡◌, ℕ, suc, List, [], ◌∷◌, refl, arith}
use Rattle.std.specs.List.{flat_map}
use Rattle.std.proofs.lemmas.Option.{none-some}
use Rattle.ice_base_values.specs.Order.{At, Has, StandOnce}
use Rattle.ice_base_values.proofs.Once.{once_append}
use Rattle.ice_back_laws.proofs.Standing.{flat_back}

-- what items give differs where each gives what differs, and no two give the same
pub once_flat : {X Y : Type 0} (f : X → List Y) (xs : List X) → ((i : ℕ) (x : X) → At xs i x → StandOnce (f x)) → ((i j : ℕ) (x z : X) (y : Y) → At xs i x → At xs j z → Has (f x) y → Has (f z) y → i ≡ j)
    → StandOnce (flat_map f xs)
once_flat f [] each apart = λ i j y a b. absurd (none-some y a)
once_flat f (x ∷ xs) each apart =
    once_append (f x) (flat_map f xs) (each 0 x refl)
    (once_flat f xs (λ i z at. each (suc i) z at) (λ i j u v y a b here there. let e : suc i ≡ suc j = apart (suc i) (suc j) u v y a b here there in omega (arith, e)))
    (λ y here later. let found = flat_back f xs y later in
    let e : 0 ≡ suc found.1.0 = apart 0 (suc found.1.0) x found.0 y refl found.1.1 here found.2 in omega (arith, e))
