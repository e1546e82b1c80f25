-- A stable sort by ranks gives the list by ranks, a permutation; equal ranks leave it as it is.
use Rattle.std.proofs.Common.{◌≡◌, ℕ, zero, suc, ◌<◌, ◌≤◌, Bool, true, false, cond, List, [], ◌∷◌, length, get_or, filter, nat_cmp, is_lt, nat_lt, refl, sym, ap, ◌∙◌, arith, inl, inr, suc-le-suc, zero-le}
use Rattle.std.proofs.lemmas.Bool.{cond-true, cond-false, cases_Bool}
use Rattle.std.proofs.lemmas.Bool.Decides.{nat_tests}
use Rattle.std.proofs.lemmas.List.Sorted.{IsPermutation-refl, IsPermutation-cons, IsPermutation-trans, IsPermutation-middle}
use Rattle.std.specs.List.Sorted.{ties, IsNonDecreasingBy, IsPermutation, IsStableByKey}
use Rattle.ice_cells.specs.Ranks.{put_by, by_rank}

-- ---- numbers
lower : (m n : ℕ) → nat_lt m n ≡ true → m < n
lower m n e = grind (arith, nat_tests)

not_lower : (m n : ℕ) → nat_lt m n ≡ false → n ≤ m
not_lower m n e = grind (arith, nat_tests)

ties_at : (m n : ℕ) → (ties (λ x y. is_lt (nat_cmp x y)) m n ≡ true → m ≡ n) × (m ≡ n → ties (λ x y. is_lt (nat_cmp x y)) m n ≡ true)
ties_at m n = (λ h. grind (arith, nat_tests), λ h. grind (arith, nat_tests))

never_lower : (m n : ℕ) → m ≡ n → nat_lt m n ≡ false
never_lower m n e = grind (arith, nat_tests)

module _ {X : Type 0} (rank : X → ℕ) where
  abbrev alike : X → X → Bool
  alike = ties (λ x y. is_lt (nat_cmp (rank x) (rank y)))

  alike-true : (x y : X) → alike x y ≡ true → rank x ≡ rank y
  alike-true x y = (ties_at (rank x) (rank y)).0

  alike_from : (x y : X) → rank x ≡ rank y → alike x y ≡ true
  alike_from x y = (ties_at (rank x) (rank y)).1

  filter-kept : (p : X → Bool) (y : X) (ys : List X) → p y ≡ true → filter p (y ∷ ys) ≡ y ∷ filter p ys
  filter-kept p y ys h = cond-true _ _ _ h

  filter-dropped : (p : X → Bool) (y : X) (ys : List X) → p y ≡ false → filter p (y ∷ ys) ≡ filter p ys
  filter-dropped p y ys h = cond-false _ _ _ h

  -- ---- it is a permutation
  pub put_permutes : (x : X) (ys : List X) → IsPermutation (x ∷ ys) (put_by rank x ys)
  put_permutes x [] = IsPermutation-refl (x ∷ [])
  put_permutes x (y ∷ ys) = by (nat_lt (rank y) (rank x)) (put_permutes x ys)
    where
      by : (b : Bool) → IsPermutation (x ∷ ys) (put_by rank x ys) → IsPermutation (x ∷ y ∷ ys) (cond b (y ∷ put_by rank x ys) (x ∷ y ∷ ys))
      by false rest = IsPermutation-refl (x ∷ y ∷ ys)
      by true rest = IsPermutation-trans _ _ _ (IsPermutation-middle (x ∷ []) y ys) (IsPermutation-cons y _ _ rest)

  pub by_rank_permutes : (xs : List X) → IsPermutation xs (by_rank rank xs)
  by_rank_permutes [] = IsPermutation-refl []
  by_rank_permutes (x ∷ xs) = IsPermutation-trans _ _ _ (IsPermutation-cons x _ _ (by_rank_permutes xs)) (put_permutes x (by_rank rank xs))

  -- ---- what ties stays in order
  filter-put : (x c : X) (ds : List X) → filter (alike x) (put_by rank c ds) ≡ filter (alike x) (c ∷ ds)
  filter-put x c [] = refl
  filter-put x c (d ∷ ds) = by (nat_lt (rank d) (rank c)) refl (filter-put x c ds)
    where
      past : rank d < rank c → filter (alike x) (put_by rank c ds) ≡ filter (alike x) (c ∷ ds) → filter (alike x) (d ∷ put_by rank c ds) ≡ filter (alike x) (c ∷ d ∷ ds)
      past less rest = elim (cases_Bool (alike x d)) [
        | inr without ↦
            filter-dropped (alike x) d (put_by rank c ds) without ∙ rest ∙ ap (λ l. cond (alike x c) (c ∷ l) l) (sym (filter-dropped (alike x) d ds without))
        | inl with ↦ elim (cases_Bool (alike x c)) [
          | inl both ↦ absurd (omega (arith, alike-true x c both, alike-true x d with))
          | inr only ↦
              filter-kept (alike x) d (put_by rank c ds) with ∙ ap (λ l. d ∷ l) (rest ∙ filter-dropped (alike x) c ds only)
              ∙ sym (filter-dropped (alike x) c (d ∷ ds) only ∙ filter-kept (alike x) d ds with)
        ]
      ]

      by : (b : Bool) → nat_lt (rank d) (rank c) ≡ b → filter (alike x) (put_by rank c ds) ≡ filter (alike x) (c ∷ ds)
          → filter (alike x) (cond b (d ∷ put_by rank c ds) (c ∷ d ∷ ds)) ≡ filter (alike x) (c ∷ d ∷ ds)
      by false e rest = refl
      by true e rest = past (lower (rank d) (rank c) e) rest

  filter-by_rank : (x : X) (xs : List X) → filter (alike x) (by_rank rank xs) ≡ filter (alike x) xs
  filter-by_rank x [] = refl
  filter-by_rank x (c ∷ cs) = filter-put x c (by_rank rank cs) ∙ ap (λ l. cond (alike x c) (c ∷ l) l) (filter-by_rank x cs)

  -- ---- it rises
  abbrev AreAtLeast : ℕ → List X → Type 0
  AreAtLeast n [] = Unit {0}
  AreAtLeast n (y ∷ ys) = (n ≤ rank y) × AreAtLeast n ys

  abbrev Rises : List X → Type 0
  Rises [] = Unit {0}
  Rises (y ∷ ys) = AreAtLeast (rank y) ys × Rises ys

  AreAtLeast-le : (n m : ℕ) (ys : List X) → n ≤ m → AreAtLeast m ys → AreAtLeast n ys
  AreAtLeast-le n m [] le h = tt
  AreAtLeast-le n m (y ∷ ys) le h = let first = h.0 in (omega arith, AreAtLeast-le n m ys le h.1)

  AreAtLeast-at : (n : ℕ) (ys : List X) → ((j : ℕ) (d : X) → j < length ys → n ≤ rank (get_or ys j d)) → AreAtLeast n ys
  AreAtLeast-at n [] h = tt
  AreAtLeast-at n (y ∷ ys) h = (h zero y (suc-le-suc zero-le), AreAtLeast-at n ys (λ j d lt. h (suc j) d (suc-le-suc lt)))

  AreAtLeast-put : (n : ℕ) (c : X) (ds : List X) → n ≤ rank c → AreAtLeast n ds → AreAtLeast n (put_by rank c ds)
  AreAtLeast-put n c [] le h = (le, tt)
  AreAtLeast-put n c (d ∷ ds) le h = by (nat_lt (rank d) (rank c)) (AreAtLeast-put n c ds le h.1)
    where
      by : (b : Bool) → AreAtLeast n (put_by rank c ds) → AreAtLeast n (cond b (d ∷ put_by rank c ds) (c ∷ d ∷ ds))
      by true rest = (h.0, rest)
      by false rest = (le, h)

  Rises-put : (c : X) (ds : List X) → Rises ds → Rises (put_by rank c ds)
  Rises-put c [] h = (tt, tt)
  Rises-put c (d ∷ ds) h = by (nat_lt (rank d) (rank c)) refl (Rises-put c ds h.1)
    where
      by : (b : Bool) → nat_lt (rank d) (rank c) ≡ b → Rises (put_by rank c ds) → Rises (cond b (d ∷ put_by rank c ds) (c ∷ d ∷ ds))
      by true e rest = (AreAtLeast-put (rank d) c ds (let less = lower (rank d) (rank c) e in omega arith) h.0, rest)
      by false e rest = ((not_lower (rank d) (rank c) e, AreAtLeast-le (rank c) (rank d) ds (not_lower (rank d) (rank c) e) h.0), h)

  Rises-by_rank : (xs : List X) → Rises (by_rank rank xs)
  Rises-by_rank [] = tt
  Rises-by_rank (x ∷ xs) = Rises-put x (by_rank rank xs) (Rises-by_rank xs)

  Rises-from_sort : (ys : List X) → IsNonDecreasingBy rank ys → Rises ys
  Rises-from_sort [] h = tt
  Rises-from_sort (y ∷ ys) h = (
    AreAtLeast-at (rank y) ys (λ j d lt. h zero (suc j) d zero-le (suc-le-suc lt)),
    Rises-from_sort ys (λ i j d le lt. h (suc i) (suc j) d (suc-le-suc le) (suc-le-suc lt)),
  )

  -- ---- lists that rise, with the same items of each rank in order, are the same
  -- the rank of x occurs among them
  AreAtLeast-found : (n : ℕ) (x : X) (ys : List X) (w : X) (ws : List X) → AreAtLeast n ys → filter (alike x) ys ≡ w ∷ ws → n ≤ rank x
  AreAtLeast-found n x [] w ws h e = cc
  AreAtLeast-found n x (y ∷ ys) w ws h e = elim (cases_Bool (alike x y)) [
    | inl with ↦ omega (arith, h.0, alike-true x y with)
    | inr without ↦ AreAtLeast-found n x ys w ws h.1 (sym (filter-dropped (alike x) y ys without) ∙ e)
  ]

  same_from_ranks : (ys zs : List X) → Rises ys → Rises zs → ((x : X) → filter (alike x) ys ≡ filter (alike x) zs) → ys ≡ zs
  same_from_ranks [] [] left right same = refl
  same_from_ranks [] (z ∷ zs) left right same = let clash = same z ∙ filter-kept (alike z) z zs (alike_from z z refl) in cc
  same_from_ranks (y ∷ ys) [] left right same = let clash = sym (same y) ∙ filter-kept (alike y) y ys (alike_from y y refl) in cc
  same_from_ranks (y ∷ ys) (z ∷ zs) left right same =
      let at_y = filter-kept (alike y) y ys (alike_from y y refl) in
      let at_z = filter-kept (alike z) z zs (alike_from z z refl) in
      let up = AreAtLeast-found (rank z) y (z ∷ zs) y _ (omega arith, right.0) (sym (same y) ∙ at_y) in
      let down = AreAtLeast-found (rank y) z (y ∷ ys) z _ (omega arith, left.0) (same z ∙ at_z) in
      let heads = sym at_y ∙ same y ∙ filter-kept (alike y) z zs (alike_from y z (omega arith)) in
      let head : y ≡ z = cc in
      let tails : (x : X) → filter (alike x) ys ≡ filter (alike x) zs =
      λ x. elim (cases_Bool (alike x y)) [
        | inl with ↦
            let both = sym (filter-kept (alike x) y ys with) ∙ same x ∙ filter-kept (alike x) z zs (ap (alike x) (sym head) ∙ with) in cc
        | inr without ↦
            sym (filter-dropped (alike x) y ys without) ∙ same x ∙ filter-dropped (alike x) z zs (ap (alike x) (sym head) ∙ without)
      ] in
      ap (λ w. w ∷ ys) head ∙ ap (λ l. z ∷ l) (same_from_ranks ys zs left.1 right.1 tails)

  pub by_rank_from_sort : (xs ys : List X) → IsNonDecreasingBy rank ys → IsStableByKey rank nat_cmp xs ys → ys ≡ by_rank rank xs
  by_rank_from_sort xs ys sorted stable =
      same_from_ranks ys (by_rank rank xs) (Rises-from_sort ys sorted) (Rises-by_rank xs) (λ x. stable x ∙ sym (filter-by_rank x xs))

  -- ---- equal ranks
  pub put_first : (n : ℕ) (x : X) (ys : List X) → ((y : X) → rank y ≡ n) → put_by rank x ys ≡ x ∷ ys
  put_first n x [] same = refl
  put_first n x (y ∷ ys) same = ap (λ b. cond b (y ∷ put_by rank x ys) (x ∷ y ∷ ys)) (never_lower (rank y) (rank x) (same y ∙ sym (same x)))

  pub by_rank_alike : (n : ℕ) (xs : List X) → ((x : X) → rank x ≡ n) → by_rank rank xs ≡ xs
  by_rank_alike n [] same = refl
  by_rank_alike n (x ∷ xs) same = ap (put_by rank x) (by_rank_alike n xs same) ∙ put_first n x xs same
