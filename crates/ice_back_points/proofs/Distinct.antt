-- Lists of items that differ, and their last items.
use Rattle.std.proofs.Common.{◌≡◌, Bool, false, List, [], ◌∷◌, ◌++◌, refl, ap, ◌∙◌}
use Rattle.std.specs.Prelude.{◌||◌}
use Rattle.std.specs.Cmp.{IsEquivalence}
use Rattle.std.specs.List.{IsDistinct, AllByRecursion, list_any}
use Rattle.std.proofs.lemmas.Map.Keys.{IsDistinct-head, IsDistinct-tail, IsDistinct-cons}

rec_left : {X : Type 0} (P : X → Type 0) (xs ys : List X) → AllByRecursion P (xs ++ ys) → AllByRecursion P xs
rec_left P [] ys all = tt
rec_left P (x ∷ xs) ys all = (all.0, rec_left P xs ys all.1)

rec_right : {X : Type 0} (P : X → Type 0) (xs ys : List X) → AllByRecursion P (xs ++ ys) → AllByRecursion P ys
rec_right P [] ys all = all
rec_right P (x ∷ xs) ys all = rec_right P xs ys all.1

none_distinct : {X : Type 0} (e : X → X → Bool) → IsDistinct e []
unfolding IsDistinct
none_distinct e = tt

pub distinct_left : {X : Type 0} (e : X → X → Bool) (xs ys : List X) → IsDistinct e (xs ++ ys) → IsDistinct e xs
distinct_left e [] ys once = none_distinct e
distinct_left e (x ∷ xs) ys once =
    IsDistinct-cons e x xs (rec_left (λ y. e x y ≡ false) xs ys (IsDistinct-head e x (xs ++ ys) once)) (distinct_left e xs ys (IsDistinct-tail e x (xs ++ ys) once))

-- the last of items that differ is none of the others
pub last_new : {X : Type 0} (e : X → X → Bool) → IsEquivalence e → (xs : List X) (x : X) → IsDistinct e (xs ++ x ∷ []) → list_any (e x) xs ≡ false
last_new e laws [] x once = refl
last_new e laws (y ∷ xs) x once =
    let head : e y x ≡ false = (rec_right (λ z. e y z ≡ false) xs (x ∷ []) (IsDistinct-head e y (xs ++ x ∷ []) once)).0 in
    let rest = last_new e laws xs x (IsDistinct-tail e y (xs ++ x ∷ []) once) in
    ap (λ b. b || list_any (e x) xs) (laws.symm x y ∙ head) ∙ rest
