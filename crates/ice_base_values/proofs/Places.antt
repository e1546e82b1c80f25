-- Points by their places, after a write, a push or a cut.
use Rattle.std.proofs.Common.{◌≡◌, ◌≢◌, ◌⊎◌, ℕ, zero, suc, ◌+◌, ◌-◌, ◌<◌, ◌≤◌, List, [], ◌∷◌, ◌++◌, inl, inr, refl, ap, length, set, take, drop, replicate, arith, zero-add, append-nil, drop_of_length-le}
use Rattle.std.specs.Prelude.{slice_get}
use Rattle.std.proofs.lemmas.List.{take_all}
use Rattle.std.proofs.lemmas.Option.{same_Some}
use Rattle.ice_base_values.specs.Order.{At}

-- one point stands at a place
pub At_same : {X : Type 0} (xs : List X) (i : ℕ) (x y : X) → At xs i x → At xs i y → x ≡ y
At_same xs i x y a b = cc

-- after a write: the place that was written, or another
pub At_set_cases : {X : Type 0} (xs : List X) (i j : ℕ) (y x : X) → i < length xs → At (set xs i y) j x
    → ((j ≡ i) × (y ≡ x)) ⊎ ((j ≢ i) × At xs j x)
At_set_cases [] i j y x lt at = absurd (omega arith)
At_set_cases (a ∷ xs) zero zero y x lt at = inl (refl, same_Some y x at)
At_set_cases (a ∷ xs) zero (suc j) y x lt at = inr (λ e. omega arith, at)
At_set_cases (a ∷ xs) (suc i) zero y x lt at = inr (λ e. omega arith, at)
At_set_cases (a ∷ xs) (suc i) (suc j) y x lt at =
    elim (At_set_cases xs i j y x (omega arith) at) [ inl both ↦ inl (ap suc both.0, both.1) | inr other ↦ inr (λ e. other.0 (let f : j ≡ i = omega arith in f), other.1) ]

pub At_set_same : {X : Type 0} (xs : List X) (i : ℕ) (y : X) → i < length xs → At (set xs i y) i y
At_set_same [] i y lt = absurd (omega arith)
At_set_same (a ∷ xs) zero y lt = refl
At_set_same (a ∷ xs) (suc i) y lt = At_set_same xs i y (omega arith)

pub At_set_other : {X : Type 0} (xs : List X) (i j : ℕ) (y x : X) → j ≢ i → At xs j x → At (set xs i y) j x
At_set_other [] i j y x ne at = cc
At_set_other (a ∷ xs) zero zero y x ne at = absurd (ne refl)
At_set_other (a ∷ xs) zero (suc j) y x ne at = at
At_set_other (a ∷ xs) (suc i) zero y x ne at = at
At_set_other (a ∷ xs) (suc i) (suc j) y x ne at = At_set_other xs i j y x (λ e. ne (ap suc e)) at

-- after a push: the new place, or an old one
pub At_push_cases : {X : Type 0} (xs : List X) (y : X) (j : ℕ) (x : X) → At (xs ++ y ∷ []) j x → At xs j x ⊎ ((j ≡ length xs) × (y ≡ x))
At_push_cases [] y zero x at = inr (refl, same_Some y x at)
At_push_cases [] y (suc j) x at = cc
At_push_cases (a ∷ xs) y zero x at = inl at
At_push_cases (a ∷ xs) y (suc j) x at = elim (At_push_cases xs y j x at) [ inl old ↦ inl old | inr new ↦ inr (ap suc new.0, new.1) ]

pub At_push_old : {X : Type 0} (xs : List X) (y : X) (j : ℕ) (x : X) → At xs j x → At (xs ++ y ∷ []) j x
At_push_old [] y j x at = cc
At_push_old (a ∷ xs) y zero x at = at
At_push_old (a ∷ xs) y (suc j) x at = At_push_old xs y j x at

pub At_push_new : {X : Type 0} (xs : List X) (y : X) → At (xs ++ y ∷ []) (length xs) y
At_push_new [] y = refl
At_push_new (a ∷ xs) y = At_push_new xs y

-- behind a cut
pub At_drop : {X : Type 0} (xs : List X) (i j : ℕ) → slice_get (drop i xs) j ≡ slice_get xs (i + j)
At_drop [] zero j = refl
At_drop [] (suc i) j = refl
At_drop (a ∷ xs) zero j = rw zero-add
At_drop (a ∷ xs) (suc i) j = let e : suc i + j ≡ suc (i + j) = omega arith in rw e (At_drop xs i j)

-- in a list of equal things
pub At_replicate : {X : Type 0} (n : ℕ) (y : X) (i : ℕ) (x : X) → At (replicate n y) i x → y ≡ x
At_replicate zero y i x at = cc
At_replicate (suc n) y zero x at = same_Some y x at
At_replicate (suc n) y (suc i) x at = At_replicate n y i x at

-- a list ends in its last element
pub At_last : {X : Type 0} (xs : List X) (i : ℕ) (x : X) → At xs i x → suc i ≡ length xs → xs ≡ take i xs ++ x ∷ []
At_last [] i x at e = cc at
At_last (a ∷ []) zero x at e = ap (λ y. y ∷ []) (same_Some a x at)
At_last (a ∷ b ∷ xs) zero x at e = absurd (omega arith)
At_last (a ∷ xs) (suc i) x at e = ap (λ ys. a ∷ ys) (At_last xs i x at (omega arith))

-- in two lists, one behind the other
pub At_append_cases : {X : Type 0} (xs ys : List X) (i : ℕ) (p : X) → At (xs ++ ys) i p → At xs i p ⊎ ((length xs ≤ i) × At ys (i - length xs) p)
At_append_cases [] ys i p at = inr (omega arith, (let e : i - 0 ≡ i = omega arith in rw e at))
At_append_cases (x ∷ xs) ys zero p at = inl at
At_append_cases (x ∷ xs) ys (suc i) p at =
    elim (At_append_cases xs ys i p at) [
      | inl old ↦ inl old
      | inr new ↦ inr (omega (arith, new.0), (let e : suc i - suc (length xs) ≡ i - length xs = omega arith in rw e new.1))
    ]

-- before a cut
pub At_take : {X : Type 0} (k : ℕ) (xs : List X) (i : ℕ) (p : X) → At (take k xs) i p → (i < k) × At xs i p
At_take zero xs i p at = cc at
At_take (suc k) [] i p at = cc at
At_take (suc k) (x ∷ xs) zero p at = (omega arith, at)
At_take (suc k) (x ∷ xs) (suc i) p at = let rest = At_take k xs i p at in (omega (arith, rest.0), rest.1)

-- a slice that a Vec lent, after a write
pub written : {X : Type 0} (len : ℕ) (xs next : List X) → length next ≡ length xs → len ≡ length xs → take len (next ++ drop (length next) xs) ≡ next
written len xs next same long =
    let none : drop (length next) xs ≡ [] = drop_of_length-le xs (omega arith) in
    rw (none, append-nil next) (take_all len next (omega arith))
