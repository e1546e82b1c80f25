-- Each first carry has a run: it stands among the heads.
use Rattle.std.proofs.Common.{◌≡◌, ◌⊎◌, ℕ, zero, suc, ◌+◌, ◌<◌, ◌≤◌, Bool, true, false, cond, Option, None, Some, List, [], ◌∷◌, length, refl, ap, sym, ◌∙◌, subst, arith, inl, inr}
use Rattle.std.specs.Prelude.{slice_get, min}
use Rattle.std.specs.List.{fold, find, filter_map, cons_option, range_with_len}
use Rattle.std.proofs.lemmas.Bool.{cases_lt, eq-eqb, eqb-true}
use Rattle.std.proofs.lemmas.Option.{same_Some, slice_get-get_or}
use Rattle.std.proofs.lemmas.List.FromFn.{length-range_with_len, get_or-range_with_len}
use Rattle.ice_cells.specs.Chains.{Head, chain, lowest, is_first, leads, leader, heads}
use Rattle.ice_cells.specs.declared.follow.Follow.{Follow}
use Rattle.ice_carry_chains.proofs.ChainLaws.{behind, chain_at, IsHead, FollowsOne, one_head}
use Rattle.ice_cells.specs.Tables.{is_place}

-- ---- the lowest of a list is one of it, or what it began with
least_in : (xs : List ℕ) (a : ℕ) → (fold min a xs ≡ a) ⊎ ((i : ℕ) × (slice_get xs i ≡ Some (fold min a xs)))
least_in [] a = inl refl
least_in (x ∷ xs) a = by (cases_lt a x) (least_in xs (min a x))
  where
    by : (a < x) ⊎ (x ≤ a) → (fold min (min a x) xs ≡ min a x) ⊎ ((i : ℕ) × (slice_get xs i ≡ Some (fold min (min a x) xs)))
        → (fold min (min a x) xs ≡ a) ⊎ ((i : ℕ) × (slice_get (x ∷ xs) i ≡ Some (fold min (min a x) xs)))
    by side (inr has) = inr (suc has.0, has.1)
    by (inl lt) (inl e) = inl (e ∙ (let m : min a x ≡ a = omega arith in m))
    by (inr le) (inl e) = inr (0, ap Some (sym (e ∙ (let m : min a x ≡ x = omega arith in m))))

least_below : (xs : List ℕ) (a : ℕ) → fold min a xs ≤ a
least_below [] a = omega arith
least_below (x ∷ xs) a = let rest = least_below xs (min a x) in omega arith

lowest_behind : (marks : List Follow) (h : ℕ) → (i : ℕ) × (behind marks i h ≡ Some (lowest marks h))
lowest_behind marks h = elim (least_in (chain marks (length marks) h) h) [
  | inl e ↦ (0, ap Some (sym e))
  | inr has ↦ (has.0, chain_at marks (length marks) h has.0 (lowest marks h) has.1)
]

-- ---- lists
found : {X : Type 0} (p : X → Bool) (xs : List X) (i : ℕ) (x : X) → slice_get xs i ≡ Some x → p x ≡ true → (y : X) × (find p xs ≡ Some y)
found p [] i x at e = cc
found {X} p (z ∷ xs) i x at e = by (p z) refl i at (λ k. found p xs k x)
  where
    by : (b : Bool) → p z ≡ b → (i : ℕ) → slice_get (z ∷ xs) i ≡ Some x → ((k : ℕ) → slice_get xs k ≡ Some x → p x ≡ true → (y : X) × (find p xs ≡ Some y)) → (y : X) × (cond b (Some z) (find p xs) ≡ Some y)
    by true f i at rest = (z, refl)
    by false f zero at rest = (let same : z ≡ x = same_Some z x at in let bad : p x ≡ false = subst (λ w. p w ≡ false) same f in cc (bad, e))
    by false f (suc k) at rest = rest k at e

pub record IsFound {X : Type 0} (p : X → Bool) (xs : List X) (x : X) : Type 0 where
  pub place : ℕ
  pub at : slice_get xs place ≡ Some x
  pub passes : p x ≡ true

pub find_back : {X : Type 0} (p : X → Bool) (xs : List X) (x : X) → find p xs ≡ Some x → IsFound p xs x
find_back p [] x e = cc
find_back p (z ∷ xs) x e = by (p z) refl e (find_back p xs x)
  where
    by : (b : Bool) → p z ≡ b → cond b (Some z) (find p xs) ≡ Some x → (find p xs ≡ Some x → IsFound p xs x) → IsFound p (z ∷ xs) x
    by true f g rest = (let same : z ≡ x = same_Some z x g in record { place = 0; at = g; passes = subst (λ w. p w ≡ true) same f })
    by false f g rest = (let old = rest g in record { place = suc old.place; at = old.at; passes = old.passes })

mapped : {X : Type 0} (f : ℕ → Option X) (xs : List ℕ) (k c : ℕ) (x : X) → slice_get xs k ≡ Some c → f c ≡ Some x → (i : ℕ) × (slice_get (filter_map f xs) i ≡ Some x)
mapped f [] k c x at e = cc
mapped {X} f (z ∷ xs) k c x at e = by (f z) refl k at (λ j. mapped f xs j c x)
  where
    by : (o : Option X) → f z ≡ o → (k : ℕ) → slice_get (z ∷ xs) k ≡ Some c → ((j : ℕ) → slice_get xs j ≡ Some c → f c ≡ Some x → (i : ℕ) × (slice_get (filter_map f xs) i ≡ Some x))
        → (i : ℕ) × (slice_get (cons_option o (filter_map f xs)) i ≡ Some x)
    by o g zero at rest = (let here : o ≡ Some x = sym g ∙ ap f (same_Some z c at) ∙ e in (0, ap (λ y. slice_get (cons_option y (filter_map f xs)) 0) here))
    by None g (suc j) at rest = rest j at e
    by (Some y) g (suc j) at rest = (let r = rest j at e in (suc r.0, r.1))

pub range_at : (n c : ℕ) → c < n → slice_get (range_with_len 0 n) c ≡ Some c
range_at n c lt =
    let long : c < length (range_with_len 0 n) = let l = length-range_with_len 0 n in omega arith in
    slice_get-get_or (range_with_len 0 n) c 0 long ∙ ap Some (get_or-range_with_len 0 n c 0 lt ∙ (let z : 0 + c ≡ c = omega arith in z))

-- ---- heads
leads_first : (marks : List Follow) (x : Head) → is_first marks x.0 x.1 ≡ true → leads marks x ≡ Some (lowest marks x.0)
leads_first marks x e = ap (λ b. cond b (Some (lowest marks x.0)) None) e

pub leads_back : (marks : List Follow) (x : Head) (low : ℕ) → is_place low (leads marks x) ≡ true → (is_first marks x.0 x.1 ≡ true) × (lowest marks x.0 ≡ low)
leads_back marks x low e = by (is_first marks x.0 x.1) refl e
  where
    by : (b : Bool) → is_first marks x.0 x.1 ≡ b → is_place low (cond b (Some (lowest marks x.0)) None) ≡ true → (is_first marks x.0 x.1 ≡ true) × (lowest marks x.0 ≡ low)
    by true f g = (f, eqb-true (lowest marks x.0) low g)
    by false f g = cc

-- `carries` has each cell once, and first carries are heads
module _ (marks : List Follow) (carries : List Head) (one : FollowsOne marks)
    (once : (i j : ℕ) (x y : Head) → slice_get carries i ≡ Some x → slice_get carries j ≡ Some y → x.0 ≡ y.0 → x ≡ y)
    (firsts : (i : ℕ) (x : Head) → slice_get carries i ≡ Some x → is_first marks x.0 x.1 ≡ true → IsHead marks x.0) where
  -- a first carry leads by its lowest cell
  pub led : (i : ℕ) (x : Head) → slice_get carries i ≡ Some x → is_first marks x.0 x.1 ≡ true → leader marks carries (lowest marks x.0) ≡ Some x
  led i x at e =
      let low : ℕ = lowest marks x.0 in
      let passes : is_place (lowest marks x.0) (leads marks x) ≡ true = ap (is_place (lowest marks x.0)) (leads_first marks x e) ∙ eq-eqb (lowest marks x.0) (lowest marks x.0) refl in
      let there = found (λ y. is_place (lowest marks x.0) (leads marks y)) carries i x at passes in
      let back = find_back (λ y. is_place (lowest marks x.0) (leads marks y)) carries there.0 there.1 in
      let led_by = leads_back marks there.0 (lowest marks x.0) back.passes in
      let mine = lowest_behind marks x.0 in
      let its = lowest_behind marks (there.0).0 in
      let joined = one_head marks one (there.0).0 x.0 (firsts back.place there.0 back.at led_by.0) (firsts i x at e) its.0 mine.0 (lowest marks x.0) (its.1 ∙ ap Some led_by.1) mine.1 in
      there.1 ∙ ap Some (once back.place i there.0 x back.at at joined.0)

  pub head_listed : (i : ℕ) (x : Head) → slice_get carries i ≡ Some x → is_first marks x.0 x.1 ≡ true → x.0 < length marks → (k : ℕ) × (slice_get (heads marks carries) k ≡ Some x)
  head_listed i x at e lt =
      let le = least_below (chain marks (length marks) x.0) x.0 in
      mapped (leader marks carries) (range_with_len 0 (length marks)) (lowest marks x.0) (lowest marks x.0) x (range_at (length marks) (lowest marks x.0) (omega arith)) (led i x at e)
