-- One row after another is drawn back, and one level after another.
use Rattle.std.proofs.Common.{◌≡◌, ℕ, ◌+◌, ◌*◌, ◌%◌, ◌^◌, w64, ◌≤◌, ◌<◌, List, [], ◌∷◌, ◌++◌, Some, length, slice_get, slice_index, slice_set, length-set, get_or-set_same, get_or-set_other, refl, sym, ap, ◌∙◌, subst, arith, inl, inr, ◌⊎◌, bit_or}
use Rattle.std.specs.Int.{bit_at}
use Rattle.std.proofs.lemmas.Bool.{cases_eq, cases_lt}
use Rattle.std.proofs.lemmas.Nat.Bits.{bit_at_or, bit_at-lt, bit_at-zero, bit_at_set_other}
use Rattle.std.proofs.lemmas.Option.{same_Some, slice_get_within}
use Rattle.ice_graph.specs.declared.edge.Edge.{Edge}
use Rattle.std.proofs.lemmas.List.{length_push}
use Rattle.ice_base_values.proofs.Places.{At_push_cases, At_push_old}
use Rattle.ice_graph.specs.Levels.{AreAll, AreLevels, Draws, Reaches}

-- ---- bits
or_left : (a b i : ℕ) → bit_at a i ≡ 1 → bit_at (bit_or a b) i ≡ 1
or_left a b i h = let e = bit_at_or a b i in let lt = bit_at-lt b i in omega (arith, e, h, lt)

or_right : (a b i : ℕ) → bit_at b i ≡ 1 → bit_at (bit_or a b) i ≡ 1
or_right a b i h = let e = bit_at_or a b i in let lt = bit_at-lt a i in omega (arith, e, h, lt)

or_cases : (a b i : ℕ) → bit_at (bit_or a b) i ≡ 1 → (bit_at a i ≡ 1) ⊎ (bit_at b i ≡ 1)
or_cases a b i h = elim (cases_eq (bit_at a i) 1) [
  | inl is ↦ inl is
  | inr other ↦ inr (let e = bit_at_or a b i in let lt = bit_at-lt a i in let le = bit_at-lt b i in omega (arith, e, h, lt, le, other))
]

pub one_bit : (k i : ℕ) → k < 64 → bit_at (1 * 2 ^ k % 2 ^ 64) i ≡ 1 → i ≡ k
one_bit k i lt h = elim (cases_eq i k) [
  | inl same ↦ same
  | inr other ↦ absurd (let e = bit_at_set_other w64 0 k lt i other in let z = bit_at-zero i in let f : bit_at (1 * 2 ^ k % 2 ^ 64) i ≡ bit_at 0 i = e in omega (arith, f, z, h))
]

pub no_bit : (i : ℕ) → bit_at 0 i ≡ 1 → ⊥
no_bit i h = let z = bit_at-zero i in absurd (omega (arith, z, h))

-- ---- rows
pub draws_none : (edges : List Edge) (level next : List ℕ) → next ≡ level → Draws edges 0 level next
draws_none edges level next same = record {
  long = ap length same;
  kept = λ w b on. ap (λ (xs : List ℕ). bit_at (slice_index xs w) b) same ∙ on;
  drawn = λ k b e lt at on. absurd (omega arith);
  made = λ w b on. inl (ap (λ (xs : List ℕ). bit_at (slice_index xs w) b) (sym same) ∙ on);
}

module _ (edges : List Edge) (n : ℕ) (level next : List ℕ) (e : Edge) (lt : e.from.0 < length next) (here : slice_get edges n ≡ Some e) (h : Draws edges n level next) where
  abbrev word : ℕ
  word = bit_or (slice_index next e.from.0) (slice_index level e.to.0)

  abbrev after : List ℕ
  after = slice_set next e.from.0 word

  now_same : slice_index after e.from.0 ≡ word
  now_same = get_or-set_same next e.from.0 word 0 lt

  now_other : (w : ℕ) → (w ≡ e.from.0 → ⊥) → slice_index after w ≡ slice_index next w
  now_other w other = get_or-set_other next e.from.0 w word 0 other

  kept' : (w b : ℕ) → Reaches next w b → Reaches after w b
  kept' w b on = elim (cases_eq w e.from.0) [
    | inl same ↦ ap (λ v. bit_at (slice_index after v) b) same ∙ (ap (λ x. bit_at x b) now_same ∙ or_left (slice_index next e.from.0) (slice_index level e.to.0) b (ap (λ v. bit_at (slice_index next v) b) (sym same) ∙ on))
    | inr other ↦ ap (λ x. bit_at x b) (now_other w other) ∙ on
  ]

  pub draws_more : Draws edges (n + 1) level after
  draws_more = record {
    long = length-set next e.from.0 word ∙ h.long;
    kept = λ w b on. kept' w b (h.kept w b on);
    drawn = λ k b d k_lt at on. elim (cases_eq k n) [
      | inl same ↦ (
          let eq : Some d ≡ Some e = sym at ∙ (ap (λ i. slice_get edges i) same ∙ here) in
          let is : d ≡ e = same_Some d e eq in
          subst (λ (x : Edge). Reaches after x.from.0 b) (sym is) (ap (λ x. bit_at x b) now_same ∙ or_right (slice_index next e.from.0) (slice_index level e.to.0) b (subst (λ (x : Edge). Reaches level x.to.0 b) is on)))
      | inr other ↦ kept' d.from.0 b (h.drawn k b d (grind arith) at on)
    ];
    made = λ w b on. elim (cases_eq w e.from.0) [
      | inl same ↦ elim (or_cases (slice_index next e.from.0) (slice_index level e.to.0) b (ap (λ x. bit_at x b) (sym now_same) ∙ (ap (λ v. bit_at (slice_index after v) b) (sym same) ∙ on))) [
        | inl was ↦ h.made w b (ap (λ v. bit_at (slice_index next v) b) same ∙ was)
        | inr drawn' ↦ inr (e, (n, here), sym same, drawn')
      ]
      | inr other ↦ h.made w b (ap (λ x. bit_at x b) (sym (now_other w other)) ∙ on)
    ];
  }

-- ---- levels
pub levels_one : (edges : List Edge) (homes : List ℕ) → AreLevels edges homes (homes ∷ [])
levels_one edges homes = record {
  some = omega arith;
  few = omega arith;
  long = λ k level at. elim (At_push_cases [] homes k level at) [ inl none ↦ absurd (cc) | inr t ↦ ap length (sym t.1) ];
  first = refl;
  next = λ k level next at at'. absurd (let lt = slice_get_within (homes ∷ []) (k + 1) next at' in omega (arith, lt));
}

pub levels_more : (edges : List Edge) (homes : List ℕ) (levels : List (List ℕ)) (k : ℕ) (last next : List ℕ) → k + 1 ≡ length levels → length levels ≤ 254 → slice_get levels k ≡ Some last → Draws edges (length edges) last next
    → AreLevels edges homes levels → AreLevels edges homes (levels ++ next ∷ [])
levels_more edges homes levels k last next long few here draws h = record {
  some = (let l = length_push levels next in omega (arith, l));
  few = (let l = length_push levels next in omega (arith, l, few));
  long = λ j level at. elim (At_push_cases levels next j level at) [
    | inl old ↦ h.long j level old
    | inr new ↦ (let a = h.long k last here in let b = draws.long in ap length (sym new.1) ∙ (b ∙ a))
  ];
  first = At_push_old levels next 0 homes h.first;
  next = λ j level after at at'. elim (At_push_cases levels next (j + 1) after at') [
    | inl old ↦ (
        let lt = slice_get_within levels (j + 1) after old in
        h.next j level after (elim (At_push_cases levels next j level at) [ inl was ↦ was | inr t ↦ absurd (let e = t.0 in omega (arith, e, lt)) ]) old)
    | inr new ↦ (
        let j_is : j ≡ k = (let e = new.0 in omega (arith, e, long)) in
        let was : slice_get levels j ≡ Some level = elim (At_push_cases levels next j level at) [ inl was ↦ was | inr t ↦ absurd (let e = t.0 in omega (arith, e, j_is, long)) ] in
        let eq : Some level ≡ Some last = sym was ∙ (ap (λ i. slice_get levels i) j_is ∙ here) in
        subst (λ xs. Draws edges (length edges) level xs) new.1 (subst (λ xs. Draws edges (length edges) xs next) (sym (same_Some level last eq)) draws))
  ];
}

pub all_none : (edges : List Edge) → AreAll edges []
all_none edges k last long at = absurd (omega (arith, long))

-- behind a level that draws to itself nothing more is reached
pub all_here : (edges : List Edge) (levels : List (List ℕ)) (place : ℕ) (level next : List ℕ) → place + 1 ≡ length levels → slice_get levels place ≡ Some level → Draws edges (length edges) level next → level ≡ next → AreAll edges levels
all_here edges levels place level next long at draws same k last k_long at' =
    let k_is : k ≡ place = omega (arith, k_long, long) in
    let last_is : last ≡ level = same_Some last level (sym at' ∙ (ap (λ i. slice_get levels i) k_is ∙ at)) in
    subst (λ xs. Draws edges (length edges) xs xs) (sym last_is) (subst (λ xs. Draws edges (length edges) level xs) (sym same) draws)
