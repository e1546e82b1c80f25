-- Lists that are alike item by item.
use Rattle.std.proofs.Common.{◌≡◌, ℕ, zero, suc, ◌+◌, not, Bool, Option, None, Some, List, [], ◌∷◌, ◌++◌, length, map, refl, ap, ◌∙◌, nat_lt, if◌then◌else◌}
use Rattle.std.specs.Prelude.{slice_get, slice_index_or, position}
use Rattle.std.specs.List.{flat_map, position_or_len}

-- a missing item goes with a missing one, and others are tied by R
abbrev pub Both : {X Y : Type 0} → (X → Y → Type 0) → Option X → Option Y → Type 0
Both R None None = Unit {0}
Both R None (Some y) = ⊥
Both R (Some x) None = ⊥
Both R (Some x) (Some y) = R x y

abbrev pub Each : {X Y : Type 0} → (X → Y → Type 0) → List X → List Y → Type 0
Each R [] [] = Unit {0}
Each R [] (y ∷ ys) = ⊥
Each R (x ∷ xs) [] = ⊥
Each R (x ∷ xs) (y ∷ ys) = R x y × Each R xs ys

pub each_map : {X Y A B : Type 0} (R : X → Y → Type 0) (S : A → B → Type 0) (f : X → A) (g : Y → B) → ((x : X) (y : Y) → R x y → S (f x) (g y)) → (xs : List X) (ys : List Y)
    → Each R xs ys → Each S (map f xs) (map g ys)
each_map R S f g on [] [] h = tt
each_map R S f g on [] (y ∷ ys) h = absurd h
each_map R S f g on (x ∷ xs) [] h = absurd h
each_map R S f g on (x ∷ xs) (y ∷ ys) h = (on x y h.0, each_map R S f g on xs ys h.1)

pub each_append : {X Y : Type 0} (R : X → Y → Type 0) (xs vs : List X) (ys ws : List Y) → Each R xs ys → Each R vs ws → Each R (xs ++ vs) (ys ++ ws)
each_append R [] vs [] ws h k = k
each_append R [] vs (y ∷ ys) ws h k = absurd h
each_append R (x ∷ xs) vs [] ws h k = absurd h
each_append R (x ∷ xs) vs (y ∷ ys) ws h k = (h.0, each_append R xs vs ys ws h.1 k)

pub each_flat : {X Y A B : Type 0} (R : X → Y → Type 0) (S : A → B → Type 0) (f : X → List A) (g : Y → List B) → ((x : X) (y : Y) → R x y → Each S (f x) (g y)) → (xs : List X) (ys : List Y)
    → Each R xs ys → Each S (flat_map f xs) (flat_map g ys)
each_flat R S f g on [] [] h = tt
each_flat R S f g on [] (y ∷ ys) h = absurd h
each_flat R S f g on (x ∷ xs) [] h = absurd h
each_flat R S f g on (x ∷ xs) (y ∷ ys) h = each_append S (f x) (flat_map f xs) (g y) (flat_map g ys) (on x y h.0) (each_flat R S f g on xs ys h.1)

pub each_long : {X Y : Type 0} (R : X → Y → Type 0) (xs : List X) (ys : List Y) → Each R xs ys → length xs ≡ length ys
each_long R [] [] h = refl
each_long R [] (y ∷ ys) h = absurd h
each_long R (x ∷ xs) [] h = absurd h
each_long R (x ∷ xs) (y ∷ ys) h = ap suc (each_long R xs ys h.1)

-- what stands at a place
pub each_at : {X Y : Type 0} (R : X → Y → Type 0) (xs : List X) (ys : List Y) (i : ℕ) → Each R xs ys → Both R (slice_get xs i) (slice_get ys i)
each_at R [] [] i h = tt
each_at R [] (y ∷ ys) i h = absurd h
each_at R (x ∷ xs) [] i h = absurd h
each_at R (x ∷ xs) (y ∷ ys) zero h = h.0
each_at R (x ∷ xs) (y ∷ ys) (suc i) h = each_at R xs ys i h.1

-- the same, where it may be missing
pub each_or : {X Y : Type 0} (R : X → Y → Type 0) (xs : List (Option X)) (ys : List (Option Y)) (i : ℕ) → Each (Both R) xs ys → Both R (slice_index_or xs i None) (slice_index_or ys i None)
each_or R [] [] i h = tt
each_or R [] (y ∷ ys) i h = absurd h
each_or R (x ∷ xs) [] i h = absurd h
each_or R (x ∷ xs) (y ∷ ys) zero h = h.0
each_or R (x ∷ xs) (y ∷ ys) (suc i) h = each_or R xs ys i h.1

-- what is taken of items that are alike is the same
pub each_same : {X Y A : Type 0} (R : X → Y → Type 0) (f : X → A) (g : Y → A) → ((x : X) (y : Y) → R x y → f x ≡ g y) → (xs : List X) (ys : List Y) → Each R xs ys → map f xs ≡ map g ys
each_same R f g on [] [] h = refl
each_same R f g on [] (y ∷ ys) h = absurd h
each_same R f g on (x ∷ xs) [] h = absurd h
each_same R f g on (x ∷ xs) (y ∷ ys) h = ap (λ z. z ∷ map f xs) (on x y h.0) ∙ ap (λ zs. g y ∷ zs) (each_same R f g on xs ys h.1)

-- the first place that passes a test
pub each_place : {X Y : Type 0} (R : X → Y → Type 0) (p : X → Bool) (q : Y → Bool) → ((x : X) (y : Y) → R x y → p x ≡ q y) → (xs : List X) (ys : List Y) → Each R xs ys
    → position_or_len p xs ≡ position_or_len q ys
each_place R p q on [] [] h = refl
each_place R p q on [] (y ∷ ys) h = absurd h
each_place R p q on (x ∷ xs) [] h = absurd h
each_place R p q on (x ∷ xs) (y ∷ ys) h =
    ap (λ b. if not b then 1 + position_or_len p xs else 0) (on x y h.0) ∙ ap (λ k. if not (q y) then 1 + k else 0) (each_place R p q on xs ys h.1)

pub each_position : {X Y : Type 0} (R : X → Y → Type 0) (p : X → Bool) (q : Y → Bool) → ((x : X) (y : Y) → R x y → p x ≡ q y) → (xs : List X) (ys : List Y) → Each R xs ys
    → position p xs ≡ position q ys
each_position R p q on xs ys h =
    ap (λ k. if nat_lt k (length xs) then Some k else None) (each_place R p q on xs ys h)
    ∙ ap (λ l. if nat_lt (position_or_len q ys) l then Some (position_or_len q ys) else None) (each_long R xs ys h)

-- what goes with an item that is there is there
pub both_there : {X Y : Type 0} (R : X → Y → Type 0) (x : Option X) (y : Y) → Both R x (Some y) → (z : X) × (x ≡ Some z) × R z y
both_there R None y h = absurd h
both_there R (Some x) y h = (x, refl, h)
