-- Sums over lists, where one element changes, and over the numbers below one.
use Rattle.std.proofs.Common.{◌≡◌, ◌≢◌, ℕ, zero, suc, ◌+◌, ◌-◌, ◌*◌, ◌≤◌, ◌<◌, List, [], ◌∷◌, ◌++◌, length, set, slice_index, cond, eqb, refl, sym, ap, subst, arith, inl, inr}
use mathlib.Core.Option.{some, some-injective, some-ne-none}
use lib.ListN.{get_elem?}
use Rattle.std.proofs.lemmas.Bool.Decides.{nat_tests}
use Rattle.std.proofs.lemmas.Bool.{cases_eq}
use Rattle.std.proofs.lemmas.List.Sums.{sum_by-cons, sum_by_push, sum_by-append}
use Rattle.std.specs.List.{sum_by, AllByRecursion}
use Rattle.ice_core.specs.Routes.{times, sum_below, wires_of}

module _ {A : Type 0} where
  pub sum_set : (f : A → ℕ) (xs : List A) (k : ℕ) (a b : A) → get_elem? xs k ≡ some a → sum_by f (set xs k b) + f a ≡ sum_by f xs + f b
  sum_set f [] k a b e = absurd (some-ne-none a (sym e))
  sum_set f (x ∷ xs) zero a b e = rw (sum_by-cons f b xs, sum_by-cons f x xs) (omega (arith, ap f (some-injective x a e)))
  sum_set f (x ∷ xs) (suc k) a b e = rw (sum_by-cons f x (set xs k b), sum_by-cons f x xs) (omega (arith, sum_set f xs k a b e))

  pub sum_at : (f : A → ℕ) (xs : List A) (k : ℕ) (a : A) → get_elem? xs k ≡ some a → f a ≤ sum_by f xs
  sum_at f [] k a e = absurd (some-ne-none a (sym e))
  sum_at f (x ∷ xs) zero a e = rw (sum_by-cons f x xs) (omega (arith, ap f (some-injective x a e)))
  sum_at f (x ∷ xs) (suc k) a e = rw (sum_by-cons f x xs) (omega (arith, sum_at f xs k a e))

  pub each_set : (P : A → Type 0) (xs : List A) (k : ℕ) (b : A) → AllByRecursion P xs → P b → AllByRecursion P (set xs k b)
  each_set P [] k b each new = tt
  each_set P (x ∷ xs) zero b each new = (new, each.1)
  each_set P (x ∷ xs) (suc k) b each new = (each.0, each_set P xs k b each.1 new)

  pub each_at : (P : A → Type 0) (xs : List A) (k : ℕ) (a : A) → AllByRecursion P xs → get_elem? xs k ≡ some a → P a
  each_at P [] k a each e = absurd (some-ne-none a (sym e))
  each_at P (x ∷ xs) zero a each e = subst P (some-injective x a e) each.0
  each_at P (x ∷ xs) (suc k) a each e = each_at P xs k a each.1 e

  -- a sum that is at most c times another, each by each
  pub sum_at_most : (P : A → Type 0) (f g : A → ℕ) (c : ℕ) → ((a : A) → P a → f a ≤ c * g a) → (xs : List A) → AllByRecursion P xs → sum_by f xs ≤ c * sum_by g xs
  sum_at_most P f g c bound [] each = omega arith
  sum_at_most P f g c bound (x ∷ xs) each = rw (sum_by-cons f x xs, sum_by-cons g x xs) (omega (arith, bound x each.0, sum_at_most P f g c bound xs each.1))

  pub sum_same : (P : A → Type 0) (f g : A → ℕ) → ((a : A) → P a → f a ≡ g a) → (xs : List A) → AllByRecursion P xs → sum_by f xs ≡ sum_by g xs
  sum_same P f g same [] each = refl
  sum_same P f g same (x ∷ xs) each = rw (sum_by-cons f x xs, sum_by-cons g x xs) (omega (arith, same x each.0, sum_same P f g same xs each.1))

  pub sum_add : (f g : A → ℕ) (xs : List A) → sum_by (λ a. f a + g a) xs ≡ sum_by f xs + sum_by g xs
  sum_add f g [] = refl
  sum_add f g (x ∷ xs) = rw (sum_by-cons (λ a. f a + g a) x xs, sum_by-cons f x xs, sum_by-cons g x xs) (omega (arith, sum_add f g xs))

  pub sum_of_ones : (xs : List A) → sum_by (λ (x : A). 1) xs ≡ length xs
  sum_of_ones [] = refl
  sum_of_ones (x ∷ xs) = rw (sum_by-cons (λ (x : A). 1) x xs) (omega (arith, sum_of_ones xs))

  pub each_any : (P : A → Type 0) → ((a : A) → P a) → (xs : List A) → AllByRecursion P xs
  each_any P all [] = tt
  each_any P all (x ∷ xs) = (all x, each_any P all xs)

  pub each_append : (P : A → Type 0) (xs ys : List A) → AllByRecursion P xs → AllByRecursion P ys → AllByRecursion P (xs ++ ys)
  each_append P [] ys each more = more
  each_append P (x ∷ xs) ys each more = (each.0, each_append P xs ys each.1 more)

-- ---- the same for a list of numbers, read by its index
pub sum_index_set : (f : ℕ → ℕ) (xs : List ℕ) (k m : ℕ) → k < length xs → sum_by f (set xs k m) + f (slice_index xs k) ≡ sum_by f xs + f m
sum_index_set f [] k m lt = absurd (omega arith)
sum_index_set f (x ∷ xs) zero m lt = rw (sum_by-cons f m xs, sum_by-cons f x xs) (omega arith)
sum_index_set f (x ∷ xs) (suc k) m lt = rw (sum_by-cons f x (set xs k m), sum_by-cons f x xs) (omega (arith, sum_index_set f xs k m (omega arith)))

-- ---- over the numbers below n
pub below_ones : (n : ℕ) → sum_below n (λ x. 1) ≡ n
below_ones zero = refl
below_ones (suc n) = omega (arith, below_ones n)

pub below_add : (n : ℕ) (f g : ℕ → ℕ) → sum_below n (λ x. f x + g x) ≡ sum_below n f + sum_below n g
below_add zero f g = refl
below_add (suc n) f g = omega (arith, below_add n f g)

pub below_more : (n k : ℕ) (f : ℕ → ℕ) → sum_below n f ≤ sum_below (k + n) f
below_more n zero f = let e : 0 + n ≡ n = omega arith in rw e (omega arith)
below_more n (suc k) f = let e : suc k + n ≡ suc (k + n) = omega arith in rw e (omega (arith, below_more n k f))

pub below_upto : (n m : ℕ) (f : ℕ → ℕ) → n ≤ m → sum_below n f ≤ sum_below m f
below_upto n m f le = let e : (m - n) + n ≡ m = omega arith in subst (λ (k : ℕ). sum_below n f ≤ sum_below k f) e (below_more n (m - n) f)

pub below_at_most : (n : ℕ) (f g : ℕ → ℕ) → ((x : ℕ) → f x ≤ g x) → sum_below n f ≤ sum_below n g
below_at_most zero f g le = omega arith
below_at_most (suc n) f g le = omega (arith, le n, below_at_most n f g le)

pub below_same : (n : ℕ) (f g : ℕ → ℕ) → ((x : ℕ) → f x ≡ g x) → sum_below n f ≡ sum_below n g
below_same zero f g same = refl
below_same (suc n) f g same = omega (arith, same n, below_same n f g same)

pub below_nothing : (n : ℕ) → sum_below n (λ x. 0) ≡ 0
below_nothing zero = refl
below_nothing (suc n) = omega (arith, below_nothing n)

abbrev pub is_at : ℕ → ℕ → ℕ
is_at x y = cond (eqb x y) 1 0

pub at_itself : (x : ℕ) → is_at x x ≡ 1
at_itself x = grind (arith, nat_tests)

pub at_other : (x y : ℕ) → x ≢ y → is_at x y ≡ 0
at_other x y other = grind (arith, nat_tests, other)

below_none : (n x : ℕ) → n ≤ x → sum_below n (is_at x) ≡ 0
below_none zero x le = refl
below_none (suc n) x le = (let other : x ≢ n = omega arith in omega (arith, below_none n x (omega arith), at_other x n other))

pub below_once : (n x : ℕ) → x < n → sum_below n (is_at x) ≡ 1
below_once zero x lt = absurd (omega arith)
below_once (suc n) x lt = elim (cases_eq x n) [
  | inl same ↦ omega (arith, below_none n x (omega arith), ap (is_at x) (sym same), at_itself x)
  | inr other ↦ omega (arith, below_once n x (omega arith), at_other x n other)
]

-- what is at x is counted only where x is below n
pub below_of : (n x : ℕ) → 1 ≤ sum_below n (is_at x) → x < n
below_of zero x some_of = absurd (omega arith)
below_of (suc n) x some_of = elim (cases_eq x n) [
  | inl same ↦ omega arith
  | inr other ↦ (let lt = below_of n x (omega (arith, at_other x n other)) in omega arith)
]

-- ---- how often numbers stand in lists
pub times_cons : (x y : ℕ) (ys : List ℕ) → times x (y ∷ ys) ≡ is_at y x + times x ys
times_cons x y ys = sum_by-cons (λ z. cond (eqb z x) 1 0) y ys

pub times_push : (x : ℕ) (xs : List ℕ) (y : ℕ) → times x (xs ++ y ∷ []) ≡ times x xs + is_at y x
times_push x xs y = sum_by_push (λ z. cond (eqb z x) 1 0) xs y

pub times_append : (x : ℕ) (xs ys : List ℕ) → times x (xs ++ ys) ≡ times x xs + times x ys
times_append x xs ys = sum_by-append (λ z. cond (eqb z x) 1 0) xs ys

-- numbers below n are as many as they stand there
spread : (n : ℕ) (xs : List ℕ) → AllByRecursion (λ x. x < n) xs → sum_below n (λ w. times w xs) ≡ length xs
spread n [] each = below_nothing n
spread n (x ∷ xs) each =
    let e : sum_below n (λ w. times w (x ∷ xs)) ≡ sum_below n (λ w. is_at x w + times w xs) = below_same n _ _ (λ w. times_cons w x xs) in
    omega (arith, e, below_add n (is_at x) (λ w. times w xs), below_once n x each.0, spread n xs each.1)

-- a list of different numbers below n has at most n of them
pub once_short : (n : ℕ) (xs : List ℕ) → AllByRecursion (λ x. x < n) xs → ((w : ℕ) → times w xs ≤ 1) → length xs ≤ n
once_short n xs each once = omega (arith, spread n xs each, below_at_most n (λ w. times w xs) (λ w. 1) once, below_ones n)

-- ---- over lists by number, and over the lists themselves
below_first : (n : ℕ) (f : ℕ → ℕ) → sum_below (suc n) f ≡ f 0 + sum_below n (λ k. f (suc k))
below_first zero f = omega arith
below_first (suc n) f = omega (arith, below_first n f)

pub below_lists : (g : List ℕ → ℕ) (lists : List (List ℕ)) → sum_below (length lists) (λ t. g (wires_of lists t)) ≡ sum_by g lists
below_lists g [] = refl
below_lists g (x ∷ lists) = omega (arith, below_first (length lists) (λ t. g (wires_of (x ∷ lists) t)), below_lists g lists, sum_by-cons g x lists)

-- ---- what is read of a list
pub read_at : (xs : List ℕ) (i a : ℕ) → get_elem? xs i ≡ some a → a ≡ slice_index xs i
read_at [] i a e = absurd (some-ne-none a (sym e))
read_at (x ∷ xs) zero a e = sym (some-injective x a e)
read_at (x ∷ xs) (suc i) a e = read_at xs i a e
