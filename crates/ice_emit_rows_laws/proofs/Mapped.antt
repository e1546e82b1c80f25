-- Items of the lists that `filter_map` makes.
use Rattle.std.proofs.Common.{◌≡◌, ◌⊎◌, zero, suc, Option, None, Some, List, [], ◌∷◌, inl, inr, refl, ap, ◌∙◌}
use Rattle.std.specs.Prelude.{filter_map}
use Rattle.std.proofs.lemmas.Option.{same_Some}
use Rattle.ice_base_values.specs.Order.{Has}
use Rattle.ice_base_values.proofs.Together.{Has_head, Has_tail}

-- an item that was made was made of one
pub Has_mapped_by : {X Y : Type 0} (f : X → Option Y) (xs : List X) (y : Y) → Has (filter_map f xs) y → (x : X) × Has xs x × (f x ≡ Some y)
Has_mapped_by f [] y has = cc has.1
Has_mapped_by {X} {Y} f (a ∷ xs) y has = by (f a) refl (λ h. Has_mapped_by f xs y h) (rest (f a) refl has)
  where
    rest : (o : Option Y) → f a ≡ o → Has (filter_map f (a ∷ xs)) y → (o ≡ Some y) ⊎ Has (filter_map f xs) y
    rest None e h = inr (rw e at h)
    rest (Some z) e h = two (rw e at h)
      where
        two : Has (z ∷ filter_map f xs) y → (Some z ≡ Some y) ⊎ Has (filter_map f xs) y
        two (zero, at) = inl at
        two (suc i, at) = inr (i, at)

    by : (o : Option Y) → f a ≡ o → (Has (filter_map f xs) y → (x : X) × Has xs x × (f x ≡ Some y)) → (o ≡ Some y) ⊎ Has (filter_map f xs) y → (x : X) × Has (a ∷ xs) x × (f x ≡ Some y)
    by o e later (inl s) = (a, Has_head a xs, e ∙ s)
    by o e later (inr h) = let got = later h in (got.0, Has_tail a got.0 xs got.1, got.2)

-- what is made of an item is an item
pub mapped_by_Has : {X Y : Type 0} (f : X → Option Y) (xs : List X) (x : X) (y : Y) → Has xs x → f x ≡ Some y → Has (filter_map f xs) y
mapped_by_Has f [] x y has e = cc has.1
mapped_by_Has f (a ∷ xs) x y (zero, at) e =
    let same : a ≡ x = same_Some a x at in
    let here : f a ≡ Some y = ap f same ∙ e in
    rw here (0, refl)
mapped_by_Has {X} {Y} f (a ∷ xs) x y (suc i, at) e = by (f a) refl (mapped_by_Has f xs x y (i, at) e)
  where
    by : (o : Option Y) → f a ≡ o → Has (filter_map f xs) y → Has (filter_map f (a ∷ xs)) y
    by None is h = rw is h
    by (Some z) is h = rw is (suc h.0, h.1)
