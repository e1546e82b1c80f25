-- Items of lists of lists, and tests of them.
use Rattle.std.proofs.Common.{◌≡◌, ◌⊎◌, ℕ, zero, suc, ◌+◌, ◌<◌, Bool, true, false, cond, None, Some, List, [], ◌∷◌, filter, find, inl, inr, refl, ap, sym, ◌∙◌, subst, arith}
use Rattle.std.specs.Prelude.{◌||◌, flat_map}
use Rattle.std.specs.List.{list_any, range_with_len}
use Rattle.std.proofs.lemmas.List.Folds.{list_any-append}
use Rattle.std.proofs.lemmas.Option.{same_Some}
use Rattle.ice_base_values.specs.Order.{At, Has}
use Rattle.ice_base_values.proofs.Members.{Has_none, Has_cases}
use Rattle.ice_base_values.proofs.Together.{Has_head, Has_tail}
use Rattle.ice_decode.proofs.Members.{Has_left, Has_right, Has_append_cases, At_range, At_range_cases}

-- ---- lists of lists
pub flat_Has : {X Y : Type 0} (f : X → List Y) (xs : List X) (y : Y) → Has (flat_map f xs) y → (x : X) × Has xs x × Has (f x) y
flat_Has f [] y has = absurd (Has_none y has)
flat_Has {X} {Y} f (x ∷ xs) y has = by (Has_append_cases (f x) (flat_map f xs) y has) (flat_Has f xs y)
  where
    by : Has (f x) y ⊎ Has (flat_map f xs) y → (Has (flat_map f xs) y → (z : X) × Has xs z × Has (f z) y) → (z : X) × Has (x ∷ xs) z × Has (f z) y
    by (inl here) rest = (x, Has_head x xs, here)
    by (inr there) rest = let old = rest there in (old.0, Has_tail x old.0 xs old.1, old.2)

pub Has_flat : {X Y : Type 0} (f : X → List Y) (xs : List X) (x : X) (y : Y) → Has xs x → Has (f x) y → Has (flat_map f xs) y
Has_flat f [] x y has inside = absurd (Has_none x has)
Has_flat f (z ∷ xs) x y (zero, at) inside = Has_left (f z) (flat_map f xs) y (subst (λ w. Has (f w) y) (sym (same_Some z x at)) inside)
Has_flat f (z ∷ xs) x y (suc i, at) inside = Has_right (f z) (flat_map f xs) y (Has_flat f xs x y (i, at) inside)

pub one_Has : {X : Type 0} (x y : X) → Has (x ∷ []) y → x ≡ y
one_Has x y has = elim (Has_cases x y [] has) [ inl here ↦ here | inr none ↦ absurd (Has_none y none) ]

-- ---- tests
pub any_flat : {X Y : Type 0} (p : Y → Bool) (f : X → List Y) (q : X → Bool) → ((x : X) → list_any p (f x) ≡ q x) → (xs : List X) → list_any p (flat_map f xs) ≡ list_any q xs
any_flat p f q same [] = refl
any_flat p f q same (x ∷ xs) = list_any-append p (f x) (flat_map f xs) ∙ (λ i. same x i || any_flat p f q same xs i)

-- a filter that keeps all that pass changes no test
pub any_filter : {X : Type 0} (p q : X → Bool) → ((x : X) → p x ≡ true → q x ≡ true) → (xs : List X) → list_any p (filter q xs) ≡ list_any p xs
any_filter p q keeps [] = refl
any_filter {X} p q keeps (x ∷ xs) = by (p x) (q x) refl (keeps x) (any_filter p q keeps xs)
  where
    by : (a b : Bool) → p x ≡ a → (p x ≡ true → b ≡ true) → list_any p (filter q xs) ≡ list_any p xs → list_any p (cond b (x ∷ filter q xs) (filter q xs)) ≡ (p x || list_any p xs)
    by a true is keep rest = ap (λ z. p x || z) rest
    by true false is keep rest = (let bad = keep is in cc bad)
    by false false is keep rest = rest ∙ sym (ap (λ z. z || list_any p xs) is)

pub find_nothing : {X : Type 0} (test : X → Bool) (xs : List X) → ((x : X) → Has xs x → test x ≡ false) → find test xs ≡ None
find_nothing test [] none = refl
find_nothing test (x ∷ xs) none = ap (λ b. cond b (Some x) (find test xs)) (none x (Has_head x xs)) ∙ find_nothing test xs (λ y has. none y (Has_tail x y xs has))

-- ---- the numbers below one
pub range_Has : (n k : ℕ) → Has (range_with_len 0 n) k → k < n
range_Has n k (i, at) = let two = At_range_cases 0 n i k at in let lt = two.0 in let e = two.1 in omega arith

pub Has_range : (n k : ℕ) → k < n → Has (range_with_len 0 n) k
Has_range n k lt = (k, subst (λ m. At (range_with_len 0 n) k m) (let e : 0 + k ≡ k = omega arith in e) (At_range 0 n k lt))
