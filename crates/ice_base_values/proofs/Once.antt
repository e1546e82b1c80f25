-- Lists in which nothing stands twice.
use Rattle.std.proofs.Common.{◌≡◌, ◌⊎◌, ◌-◌, ◌≤◌, Bool, true, List, ◌++◌, length, inl, inr, subst, get_or, arith}
use Rattle.std.specs.List.{IsDistinct}
use Rattle.std.proofs.lemmas.Bool.{false_from_ne_true}
use Rattle.std.proofs.lemmas.Map.Keys.{IsDistinct-from_apart}
use Rattle.std.proofs.lemmas.Option.{slice_get-get_or}
use Rattle.ice_base_values.specs.Order.{At, Has, StandOnce}
use Rattle.ice_base_values.proofs.Places.{At_append_cases}

pub once_append : {X : Type 0} (xs ys : List X) → StandOnce xs → StandOnce ys → ((x : X) → Has xs x → Has ys x → ⊥) → StandOnce (xs ++ ys)
once_append {X} xs ys one two apart i j x a b = by (At_append_cases xs ys i x a) (At_append_cases xs ys j x b)
  where
    by : At xs i x ⊎ ((length xs ≤ i) × At ys (i - length xs) x) → At xs j x ⊎ ((length xs ≤ j) × At ys (j - length xs) x) → i ≡ j
    by (inl p) (inl q) = one i j x p q
    by (inl p) (inr q) = absurd (apart x (i, p) (j - length xs, q.1))
    by (inr p) (inl q) = absurd (apart x (j, q) (i - length xs, p.1))
    by (inr p) (inr q) =
        let e : i - length xs ≡ j - length xs = two (i - length xs) (j - length xs) x p.1 q.1 in
        let le : length xs ≤ i = p.0 in
        let more : length xs ≤ j = q.0 in
        omega (arith, e, le, more)

-- by a test that tells items from one another
pub distinct_from_once : {X : Type 0} (e : X → X → Bool) → ((x y : X) → e x y ≡ true → x ≡ y) → (xs : List X) → StandOnce xs → IsDistinct e xs
distinct_from_once {X} e same xs once =
    IsDistinct-from_apart e xs (λ i j d lt inside.
    false_from_ne_true (e (get_or xs i d) (get_or xs j d))
    (λ yes. let here = slice_get-get_or xs i d (omega (arith, lt, inside)) in
    let there = slice_get-get_or xs j d inside in
    let eq = same (get_or xs i d) (get_or xs j d) yes in
    let place : i ≡ j = once i j (get_or xs j d) (subst (At xs i) eq here) there in
    omega (arith, place, lt)))
