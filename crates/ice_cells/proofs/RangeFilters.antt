-- The numbers below a bound that pass a test.
use Rattle.std.proofs.Common.{◌≡◌, ◌⊎◌, ℕ, zero, suc, ◌+◌, ◌<◌, ◌≤◌, Bool, true, false, cond, Some, List, [], ◌∷◌, ◌++◌, append-nil, length, refl, ap, sym, ◌∙◌, arith, inl, inr}
use Rattle.std.specs.Prelude.{slice_get}
use Rattle.std.specs.List.{filter, range_with_len}
use Rattle.std.proofs.lemmas.Bool.{cases_lt}
use Rattle.std.proofs.lemmas.List.{map-id}
use Rattle.std.proofs.lemmas.List.Elements.{filter-append}
use Rattle.std.proofs.lemmas.List.FromFn.{map-range_with_len_more}
use Rattle.std.proofs.lemmas.Option.{same_Some}

pub range_more : (i : ℕ) → range_with_len 0 (i + 1) ≡ range_with_len 0 i ++ i ∷ []
range_more i = sym (map-id (range_with_len 0 (i + 1))) ∙ map-range_with_len_more (λ x. x) 0 i i (omega arith) ∙ ap (λ xs. xs ++ i ∷ []) (map-id (range_with_len 0 i))

pub filter_more : (test : ℕ → Bool) (i : ℕ) → filter test (range_with_len 0 (i + 1)) ≡ filter test (range_with_len 0 i) ++ cond (test i) (i ∷ []) []
filter_more test i = ap (filter test) (range_more i) ∙ filter-append test (range_with_len 0 i) (i ∷ [])

at_end : (xs : List ℕ) (x : ℕ) → slice_get (xs ++ x ∷ []) (length xs) ≡ Some x
at_end [] x = refl
at_end (y ∷ xs) x = at_end xs x

at_front : (xs ys : List ℕ) (k x : ℕ) → slice_get xs k ≡ Some x → slice_get (xs ++ ys) k ≡ Some x
at_front [] ys k x e = cc
at_front (z ∷ xs) ys zero x e = e
at_front (z ∷ xs) ys (suc k) x e = at_front xs ys k x e

pushed : (xs : List ℕ) (y k x : ℕ) → slice_get (xs ++ y ∷ []) k ≡ Some x → (slice_get xs k ≡ Some x) ⊎ ((k ≡ length xs) × (y ≡ x))
pushed [] y zero x e = inr (refl, same_Some y x e)
pushed [] y (suc k) x e = cc
pushed (z ∷ xs) y zero x e = inl e
pushed (z ∷ xs) y (suc k) x e = elim (pushed xs y k x e) [
  | inl old ↦ inl old
  | inr new ↦ inr (ap suc new.0, new.1)
]

-- a number that passes stands behind as many as pass before it
pub place_of_passing : (test : ℕ → Bool) (n i : ℕ) → i < n → test i ≡ true → slice_get (filter test (range_with_len 0 n)) (length (filter test (range_with_len 0 i))) ≡ Some i
place_of_passing test zero i lt e = absurd (omega arith)
place_of_passing test (suc n) i lt e = by (cases_lt i n) (place_of_passing test n i)
  where
    before : List ℕ
    before = filter test (range_with_len 0 n)

    more : filter test (range_with_len 0 (suc n)) ≡ before ++ cond (test n) (n ∷ []) []
    more = ap (λ m. filter test (range_with_len 0 m)) (let s : suc n ≡ n + 1 = omega arith in s) ∙ filter_more test n

    by : (i < n) ⊎ (n ≤ i) → (i < n → test i ≡ true → slice_get before (length (filter test (range_with_len 0 i))) ≡ Some i)
        → slice_get (filter test (range_with_len 0 (suc n))) (length (filter test (range_with_len 0 i))) ≡ Some i
    by (inl below) rest = ap (λ xs. slice_get xs (length (filter test (range_with_len 0 i)))) more ∙ at_front before (cond (test n) (n ∷ []) []) (length (filter test (range_with_len 0 i))) i (rest below e)
    by (inr above) rest =
        let same : n ≡ i = omega arith in
        ap (λ xs. slice_get xs (length (filter test (range_with_len 0 i)))) (more ∙ ap (λ b. before ++ cond b (n ∷ []) []) (ap test same ∙ e))
        ∙ ap (λ j. slice_get (before ++ n ∷ []) (length (filter test (range_with_len 0 j)))) (sym same) ∙ at_end before n ∙ ap Some same

-- what stands among those that pass, passes, and stands behind as many as pass before it
pub record IsPassing (test : ℕ → Bool) (n k i : ℕ) : Type 0 where
  pub below : i < n
  pub passes : test i ≡ true
  pub place : k ≡ length (filter test (range_with_len 0 i))

pub passing_at : (test : ℕ → Bool) (n k i : ℕ) → slice_get (filter test (range_with_len 0 n)) k ≡ Some i → IsPassing test n k i
passing_at test zero k i e = cc
passing_at test (suc n) k i e = by (test n) refl (sym (ap (λ xs. slice_get xs k) more) ∙ e) (passing_at test n k i)
  where
    before : List ℕ
    before = filter test (range_with_len 0 n)

    more : filter test (range_with_len 0 (suc n)) ≡ before ++ cond (test n) (n ∷ []) []
    more = ap (λ m. filter test (range_with_len 0 m)) (let s : suc n ≡ n + 1 = omega arith in s) ∙ filter_more test n

    old : IsPassing test n k i → IsPassing test (suc n) k i
    old p = record { below = (let lt = p.below in omega arith); passes = p.passes; place = p.place }

    plain : (xs : List ℕ) → slice_get (xs ++ []) k ≡ Some i → slice_get xs k ≡ Some i
    plain xs f = sym (ap (λ ys. slice_get ys k) (append-nil xs)) ∙ f

    by : (b : Bool) → test n ≡ b → slice_get (before ++ cond b (n ∷ []) []) k ≡ Some i → (slice_get before k ≡ Some i → IsPassing test n k i) → IsPassing test (suc n) k i
    by false f g rest = old (rest (plain before g))
    by true f g rest = elim (pushed before n k i g) [
      | inl there ↦ old (rest there)
      | inr here ↦ record { below = (let s = here.1 in omega arith); passes = ap test (sym here.1) ∙ f; place = here.0 ∙ ap (λ j. length (filter test (range_with_len 0 j))) here.1 }
    ]
