-- What stands in lists that are made of others.
use Rattle.std.proofs.Common.{◌≡◌, ◌⊎◌, ℕ, zero, suc, ◌+◌, ◌-◌, ◌<◌, Bool, true, false, cond, List, [], ◌∷◌, ◌++◌, Some, inl, inr, refl, ap, sym, ◌∙◌, subst, length, map, filter, arith}
use Rattle.std.specs.List.{range_with_len, list_any}
use Rattle.std.proofs.lemmas.Option.{same_Some}
use Rattle.ice_base_values.specs.Order.{At, Has, StandOnce}
use Rattle.ice_base_values.proofs.Places.{At_push_cases, At_append_cases}

module _ {X : Type 0} where
  pub At_left : (xs ys : List X) (i : ℕ) (x : X) → At xs i x → At (xs ++ ys) i x
  At_left [] ys i x at = cc at
  At_left (a ∷ xs) ys zero x at = at
  At_left (a ∷ xs) ys (suc i) x at = At_left xs ys i x at

  pub At_right : (xs ys : List X) (i j : ℕ) (x : X) → At ys i x → j ≡ length xs + i → At (xs ++ ys) j x
  At_right [] ys i j x at e = let f : i ≡ j = omega arith in subst (λ k. At ys k x) f at
  At_right (a ∷ xs) ys i zero x at e = absurd (omega arith)
  At_right (a ∷ xs) ys i (suc j) x at e = At_right xs ys i j x at (omega arith)

  pub Has_left : (xs ys : List X) (x : X) → Has xs x → Has (xs ++ ys) x
  Has_left xs ys x has = (has.0, At_left xs ys has.0 x has.1)

  pub Has_right : (xs ys : List X) (x : X) → Has ys x → Has (xs ++ ys) x
  Has_right xs ys x has = (length xs + has.0, At_right xs ys has.0 (length xs + has.0) x has.1 refl)

  pub Has_append_cases : (xs ys : List X) (x : X) → Has (xs ++ ys) x → Has xs x ⊎ Has ys x
  Has_append_cases xs ys x has = elim (At_append_cases xs ys has.0 x has.1) [ inl left ↦ inl (has.0, left) | inr right ↦ inr (has.0 - length xs, right.1) ]

  pub Has_filter : (test : X → Bool) (xs : List X) (x : X) → test x ≡ true → Has xs x → Has (filter test xs) x
  Has_filter test [] x passes has = cc has.1
  Has_filter test (a ∷ xs) x passes (zero, at) =
      let same : a ≡ x = same_Some a x at in
      let yes : test a ≡ true = ap test same ∙ passes in
      rw yes (0, at)
  Has_filter test (a ∷ xs) x passes (suc i, at) = by (test a) (Has_filter test xs x passes (i, at))
    where
      by : (b : Bool) → Has (filter test xs) x → Has (cond b (a ∷ filter test xs) (filter test xs)) x
      by true h = (suc h.0, h.1)
      by false h = h

  -- one that passes a test is there where some passes, if the test tells it from all others
  pub Has_any : (test : X → Bool) (x : X) → ((y : X) → test y ≡ true → x ≡ y) → (xs : List X) → list_any test xs ≡ true → Has xs x
  Has_any test x same [] e = cc e
  Has_any test x same (a ∷ xs) e = by (test a) refl (λ f. Has_any test x same xs f)
    where
      by : (b : Bool) → test a ≡ b → (list_any test xs ≡ true → Has xs x) → Has (a ∷ xs) x
      by true is later = (0, ap (λ y. Some y) (sym (same a is)))
      by false is later = let rest = later (rw is at e) in (suc rest.0, rest.1)

  pub Has_none : (test : X → Bool) (x : X) → test x ≡ true → (xs : List X) → list_any test xs ≡ false → Has xs x → ⊥
  Has_none test x passes [] e has = cc has.1
  Has_none test x passes (a ∷ xs) e (zero, at) =
      let yes : test a ≡ true = ap test (same_Some a x at) ∙ passes in
      let no = rw yes at e in cc no
  Has_none test x passes (a ∷ xs) e (suc i, at) = by (test a) refl (λ f. Has_none test x passes xs f (i, at))
    where
      by : (b : Bool) → test a ≡ b → (list_any test xs ≡ false → ⊥) → ⊥
      by true is later = let no = rw is at e in cc no
      by false is later = later (rw is at e)

  pub once_push : (xs : List X) (x : X) → StandOnce xs → (Has xs x → ⊥) → StandOnce (xs ++ x ∷ [])
  once_push xs x once new i j p a b =
      elim (At_push_cases xs x i p a) [
        | inl here ↦ elim (At_push_cases xs x j p b) [
          | inl there ↦ once i j p here there
          | inr last ↦ absurd (new (i, subst (At xs i) (sym last.1) here))
        ]
        | inr last ↦ elim (At_push_cases xs x j p b) [
          | inl there ↦ absurd (new (j, subst (At xs j) (sym last.1) there))
          | inr too ↦ last.0 ∙ sym too.0
        ]
      ]

module _ {X Y : Type 0} (f : X → Y) where
  pub At_map : (xs : List X) (i : ℕ) (x : X) → At xs i x → At (map f xs) i (f x)
  At_map [] i x at = cc at
  At_map (a ∷ xs) zero x at = ap (λ y. Some (f y)) (same_Some a x at)
  At_map (a ∷ xs) (suc i) x at = At_map xs i x at

  pub At_map_cases : (xs : List X) (i : ℕ) (y : Y) → At (map f xs) i y → (x : X) × At xs i x × (f x ≡ y)
  At_map_cases [] i y at = cc at
  At_map_cases (a ∷ xs) zero y at = (a, refl, same_Some (f a) y at)
  At_map_cases (a ∷ xs) (suc i) y at = At_map_cases xs i y at

  pub Has_map : (xs : List X) (x : X) → Has xs x → Has (map f xs) (f x)
  Has_map xs x has = (has.0, At_map xs has.0 x has.1)

-- ---- numbers in a row
pub At_range : (a n i : ℕ) → i < n → At (range_with_len a n) i (a + i)
At_range a zero i lt = absurd (omega arith)
At_range a (suc n) zero lt = let e : a ≡ a + 0 = omega arith in ap (λ k. Some k) e
At_range a (suc n) (suc i) lt = let e : a + 1 + i ≡ a + suc i = omega arith in subst (λ k. At (range_with_len (a + 1) n) i k) e (At_range (a + 1) n i (omega arith))

pub At_range_cases : (a n i k : ℕ) → At (range_with_len a n) i k → (i < n) × (k ≡ a + i)
At_range_cases a zero i k at = cc at
At_range_cases a (suc n) zero k at = (omega arith, let e : a ≡ k = same_Some a k at in omega arith)
At_range_cases a (suc n) (suc i) k at = let rest = At_range_cases (a + 1) n i k at in (omega (arith, rest.0), omega (arith, rest.1))
