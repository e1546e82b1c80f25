-- As many steps as there are points, and one more, are always enough: more steps give a value to no point that has none with
-- these. The least number of steps with which a point has a value falls along dependences, so the number of listed points that
-- need fewer is a rank, and it is below the number of points.
use Rattle.std.proofs.Common.{◌≡◌, ◌⊎◌, ℕ, zero, suc, ◌+◌, ◌<◌, ◌≤◌, cond, leb, Option, None, Some, List, [], ◌∷◌, map, length, refl, sym, ◌∙◌, subst, inl, inr, arith}
use Rattle.std.proofs.lemmas.Bool.{cases_lt}
use Rattle.std.proofs.lemmas.Bool.Decides.{leb_tells}
use Rattle.std.proofs.lemmas.List.{length-map}
use Rattle.ice_base.specs.Lists.{all_known}
use Rattle.ice_base_values.specs.System.{System, value}
use Rattle.ice_base_values.specs.Order.{At, Has, Descends}
use Rattle.ice_base.proofs.Booleans.{one_bound}
use Rattle.ice_base.proofs.Options.{option_map_some}
use Rattle.ice_base_values.proofs.Members.{At_map}
use Rattle.ice_base_values.proofs.Together.{together_parts}
use Rattle.ice_base_values.proofs.Values.{value_suc, value_at_more, value_there}

-- how many of the numbers are below another
abbrev pub below : List ℕ → ℕ → ℕ
below [] r = 0
below (a ∷ ranks) r = cond (leb (suc a) r) 1 0 + below ranks r

below_one : (a r s : ℕ) → r ≤ s → cond (leb (suc a) r) 1 0 ≤ cond (leb (suc a) s) 1 0
below_one a r s le =
    elim (leb_tells (suc a) r) [
      | inl hit ↦ elim (leb_tells (suc a) s) [ inl also ↦ rw (hit.0, also.0) (omega arith) | inr miss ↦ absurd (omega (arith, hit.1, miss.1)) ]
      | inr miss ↦ rw miss.0 (omega arith)
    ]

pub below_more : (ranks : List ℕ) (r s : ℕ) → r ≤ s → below ranks r ≤ below ranks s
below_more [] r s le = omega arith
below_more (a ∷ ranks) r s le = let first = below_one a r s le in let rest = below_more ranks r s le in omega (arith, first, rest)

pub below_strictly : (ranks : List ℕ) (k a s : ℕ) → At ranks k a → a < s → below ranks a < below ranks s
below_strictly [] k a s at lt = cc
below_strictly (b ∷ ranks) zero a s at lt =
    let same : b ≡ a = cc in
    let rest = below_more ranks a s (omega arith) in
    elim (leb_tells (suc b) a) [
      | inl hit ↦ absurd (omega (arith, hit.1, same))
      | inr miss ↦ elim (leb_tells (suc b) s) [ inl hit ↦ rw (miss.0, hit.0) (omega (arith, rest)) | inr fail ↦ absurd (omega (arith, fail.1, same)) ]
    ]
below_strictly (b ∷ ranks) (suc k) a s at lt =
    let first = below_one b a s (omega arith) in let rest = below_strictly ranks k a s at lt in omega (arith, first, rest)

pub below_length : (ranks : List ℕ) (r : ℕ) → below ranks r ≤ length ranks
below_length [] r = omega arith
below_length (a ∷ ranks) r = let first = one_bound (leb (suc a) r) in let rest = below_length ranks r in omega (arith, first, rest)

-- one of a list whose values are all there
pub together_at : {P A : Type 0} (w : P → Option A) (qs : List P) (xs : List A) (i : ℕ) (q : P) → all_known (map w qs) ≡ Some xs → At qs i q → (x : A) × (w q ≡ Some x)
together_at w [] xs i q h at = cc
together_at w (p ∷ qs) xs zero q h at = let got = together_parts (w p) (map w qs) xs h in let same : p ≡ q = cc in (got.0, rw (← same) got.2)
together_at w (p ∷ qs) xs (suc i) q h at = let got = together_parts (w p) (map w qs) xs h in together_at w qs got.1 i q got.3 at

abbrev or_else : {A : Type 0} → Option A → ℕ → ℕ → ℕ
or_else None there missing = missing
or_else (Some x) there missing = there

-- the least number of steps with which a point has a value, if it has one with that many
abbrev pub first : {P A : Type 0} → System P A → ℕ → P → ℕ
first s zero p = 0
first s (suc f) p = or_else (value s f p) (first s f p) (suc f)

module _ {P A : Type 0} (s : System P A) where
  first_there : (f : ℕ) (p : P) (x : A) → value s f p ≡ Some x → value s (first s f p) p ≡ Some x
  first_there zero p x h = h
  first_there (suc f) p x h = of (value s f p) refl (λ y e. first_there f p y e)
    where
      of : (o : Option A) → value s f p ≡ o → ((y : A) → value s f p ≡ Some y → value s (first s f p) p ≡ Some y) → value s (or_else o (first s f p) (suc f)) p ≡ Some x
      of None e rec = h
      of (Some y) e rec = let same : Some y ≡ Some x = sym (value_suc s f p y e) ∙ h in rec x (e ∙ same)

  first_bound : (f : ℕ) (p : P) → first s f p ≤ f
  first_bound zero p = omega arith
  first_bound (suc f) p = of (value s f p) (first_bound f p)
    where
      of : (o : Option A) → first s f p ≤ f → or_else o (first s f p) (suc f) ≤ suc f
      of None h = omega arith
      of (Some y) h = omega arith

  first_least : (f k : ℕ) (p : P) (x : A) → value s k p ≡ Some x → k ≤ f → first s f p ≤ k
  first_least zero k p x h le = omega arith
  first_least (suc f) k p x h le = of (value s f p) refl (λ ge. first_least f k p x h ge)
    where
      of : (o : Option A) → value s f p ≡ o → (k ≤ f → first s f p ≤ k) → or_else o (first s f p) (suc f) ≤ k
      of None e rec = elim (cases_lt f k) [
        | inl lt ↦ (let g : suc f ≤ k = omega arith in g)
        | inr ge ↦ (let there : value s f p ≡ Some x = value_at_more s k f p x ge h in cc (there, e))
      ]
      of (Some y) e rec = elim (cases_lt f k) [
        | inl lt ↦ (let g = first_bound f p in omega arith)
        | inr ge ↦ rec ge
      ]

  -- what a point with a value depends on has one with a step less
  value_back : (f : ℕ) (p q : P) (x : A) → value s f p ≡ Some x → Has (s.depends p) q → (k : ℕ) × (y : A) × (f ≡ suc k) × (value s k q ≡ Some y)
  value_back zero p q x h has = cc
  value_back (suc f) p q x h has =
      let got = option_map_some (s.local p) (all_known (map (λ r. value s f r) (s.depends p))) x h in
      let there = together_at (λ r. value s f r) (s.depends p) got.0 has.0 q got.1 has.1 in
      (f, there.0, refl, there.1)

  -- where a point has a value, the least number of steps is smaller for what it depends on
  pub first_falls : (f : ℕ) (p q : P) (x : A) → value s f p ≡ Some x → Has (s.depends p) q → first s f q < first s f p
  first_falls f p q x h dep =
      let back = value_back (first s f p) p q x (first_there f p x h) dep in
      let bound = first_bound f p in
      let less : first s f q ≤ back.0 = first_least f back.0 q back.1 back.3 (let g : first s f p ≡ suc back.0 = back.2 in omega arith) in
      let g : first s f p ≡ suc back.0 = back.2 in omega arith

  module _ (points : List P) (closed : (p q : P) → Has points p → Has (s.depends p) q → Has points q ⊎ (s.depends q ≡ [])) (f : ℕ) where
    abbrev ranks : List ℕ
    ranks = map (first s f) points

    data Ranked (i : ℕ) (p : P) : Type 0 where
      listed : Has points p → (x : A) → value s f p ≡ Some x → i ≡ suc (below ranks (first s f p)) → Ranked i p
      source : s.depends p ≡ [] → i ≡ 0 → Ranked i p

    falls : Descends s.depends Ranked
    falls i p q (listed has x h e) dep =
        let back = value_back (first s f p) p q x (first_there f p x h) dep in
        let bound = first_bound f p in
        let less : first s f q ≤ back.0 = first_least f back.0 q back.1 back.3 (let g : first s f p ≡ suc back.0 = back.2 in omega arith) in
        let lower : first s f q < first s f p = (let g : first s f p ≡ suc back.0 = back.2 in omega arith) in
        let there : value s f q ≡ Some back.1 = value_at_more s back.0 f q back.1 (let g : first s f p ≡ suc back.0 = back.2 in omega arith) back.3 in
        elim (closed p q has dep) [
          | inl has_q ↦ (let strict = below_strictly ranks has_q.0 (first s f q) (first s f p) (At_map (first s f) points has_q.0 q has_q.1) lower in
              (suc (below ranks (first s f q)), (let g : suc (below ranks (first s f q)) < i = omega (arith, e, strict) in g), listed has_q back.1 there refl))
          | inr none ↦ (0, (let g : 0 < i = omega (arith, e) in g), source none refl)
        ]
    falls i p q (source none e) dep = let bad : At [] dep.0 q = subst (λ (row : List P). At row dep.0 q) none dep.1 in cc bad

    -- a listed point that has a value with any number of steps has one with as many as there are points, and one more
    pub value_enough : (p : P) (x : A) → Has points p → value s f p ≡ Some x → value s (length points + 1) p ≡ Some x
    value_enough p x has h =
        let strict = below_strictly ranks has.0 (first s f p) (suc (first s f p)) (At_map (first s f) points has.0 p has.1) (omega arith) in
        let bound = below_length ranks (suc (first s f p)) in
        let long : length ranks ≡ length points = length-map points (first s f) in
        let there = value_there s Ranked falls (length points + 1) (suc (below ranks (first s f p))) p (listed has x h refl) (omega (arith, strict, bound, long)) in
        let y = there.0 in
        let one : value s (length points + 1 + f) p ≡ Some y = value_at_more s (length points + 1) (length points + 1 + f) p y (omega arith) there.1 in
        let two : value s (length points + 1 + f) p ≡ Some x = value_at_more s f (length points + 1 + f) p x (omega arith) h in
        there.1 ∙ sym one ∙ two
