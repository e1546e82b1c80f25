-- When all the values of a list of points are there.
use Rattle.std.proofs.Common.{◌≡◌, ℕ, zero, suc, Option, None, Some, List, [], ◌∷◌, map, refl, ap}
use Rattle.ice_base.proofs.Options.{option_map_some}
use Rattle.ice_base.specs.Lists.{all_known}
use Rattle.ice_base_values.specs.Order.{At, Has}

-- the parts of a list whose values are all there
pub together_parts : {A : Type 0} (o : Option A) (others : List (Option A)) (ys : List A) → all_known (o ∷ others) ≡ Some ys
    → (x : A) × (xs : List A) × (o ≡ Some x) × (all_known others ≡ Some xs) × (x ∷ xs ≡ ys)
together_parts None others ys h = cc
together_parts (Some x) others ys h = let got = option_map_some (λ xs. x ∷ xs) (all_known others) ys h in (x, got.0, refl, got.1, got.2)

-- where w has each value that v has, it has all of a list that v has
pub together_more : {P A : Type 0} (v w : P → Option A) → ((q : P) (x : A) → v q ≡ Some x → w q ≡ Some x)
    → (qs : List P) (xs : List A) → all_known (map v qs) ≡ Some xs → all_known (map w qs) ≡ Some xs
together_more v w more [] xs h = h
together_more v w more (q ∷ qs) xs h =
    let got = together_parts (v q) (map v qs) xs h in
    rw (more q got.0 got.2, together_more v w more qs got.1 got.3) (ap Some got.4)

pub Has_head : {P : Type 0} (q : P) (qs : List P) → Has (q ∷ qs) q
Has_head q qs = (0, refl)

pub Has_tail : {P : Type 0} (p q : P) (qs : List P) → Has qs q → Has (p ∷ qs) q
Has_tail p q qs h = (suc h.0, h.1)

-- where each value is that of an assignment, all of them are
pub together_are : {P A : Type 0} (w : P → Option A) (v : P → A) (qs : List P) → ((q : P) → Has qs q → w q ≡ Some (v q))
    → all_known (map w qs) ≡ Some (map v qs)
together_are w v [] h = refl
together_are w v (q ∷ qs) h =
    rw (h q (Has_head q qs), together_are w v qs (λ r at. h r (Has_tail q r qs at)))

-- where each value is there, all of them are
pub together_there : {P A : Type 0} (w : P → Option A) (qs : List P) → ((q : P) → Has qs q → (x : A) × (w q ≡ Some x))
    → (xs : List A) × (all_known (map w qs) ≡ Some xs)
together_there w [] h = ([], refl)
together_there w (q ∷ qs) h =
    let first = h q (Has_head q qs) in
    let rest = together_there w qs (λ r at. h r (Has_tail q r qs at)) in
    (first.0 ∷ rest.0, rw (first.1, rest.1))

-- where one is missing, they are not all there
pub together_missing_rest : {A : Type 0} (o : Option A) (os : List (Option A)) → all_known os ≡ None → all_known (o ∷ os) ≡ None
together_missing_rest None os e = refl
together_missing_rest (Some x) os e = rw e

pub together_missing : {P A : Type 0} (w : P → Option A) (qs : List P) (q : P) (i : ℕ) → At qs i q → w q ≡ None
    → all_known (map w qs) ≡ None
together_missing w [] q i at h = cc
together_missing w (p ∷ qs) q zero at h = let e : w p ≡ None = cc in rw e
together_missing w (p ∷ qs) q (suc i) at h = together_missing_rest (w p) (map w qs) (together_missing w qs q i at h)

-- the values that v gives to where e leads are those that w gives
pub map_along : {P Q B : Type 0} (v : Q → B) (w : P → B) (e : P → Q) (ps : List P) → ((p : P) → Has ps p → v (e p) ≡ w p) → map v (map e ps) ≡ map w ps
map_along v w e [] same = refl
map_along v w e (p ∷ ps) same = rw (same p (Has_head p ps), map_along v w e ps (λ q has. same q (Has_tail p q ps has)))
