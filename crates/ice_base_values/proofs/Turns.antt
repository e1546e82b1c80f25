-- A cycle that begins elsewhere is the same cycle.
use Rattle.std.proofs.Common.{◌≡◌, ◌⊎◌, ℕ, ◌+◌, ◌-◌, ◌<◌, ◌≤◌, List, ◌++◌, inl, inr, sym, ◌∙◌, subst, length, get_or, take, drop, arith, length-append, length-drop, length-take}
use Rattle.std.proofs.lemmas.Option.{slice_get_within, slice_get-get_or}
use Rattle.ice_base_values.specs.Order.{At, Has, StandOnce, IsCycle, IsCycleBelow}
use Rattle.ice_base_values.proofs.Places.{At_same, At_append_cases, At_take, At_drop}

module _ {P : Type 0} (c : List P) (k : ℕ) (inside : k < length c) where
  pub turn_length : length (drop k c ++ take k c) ≡ length c
  turn_length = simp (length-append, length-drop, length-take) (omega arith)

  -- where a point of the turned list stood
  pub At_turn : (i : ℕ) (p : P) → At (drop k c ++ take k c) i p
      → ((k + i < length c) × At c (k + i) p) ⊎ ((length c - k ≤ i) × (i - (length c - k) < k) × At c (i - (length c - k)) p)
  At_turn i p at =
      elim (At_append_cases (drop k c) (take k c) i p at) [
        | inl front ↦ (let here : At c (k + i) p = sym (At_drop c k i) ∙ front in inl (slice_get_within c (k + i) p here, here))
        | inr back ↦ (let e : length (drop k c) ≡ length c - k = length-drop k c in
            let there = At_take k c (i - length (drop k c)) p back.1 in
            inr (subst (λ m. (m ≤ i) × (i - m < k) × At c (i - m) p) e (back.0, there.0, there.1)))
      ]

  pub Has_turn : (i : ℕ) (p : P) → At (drop k c ++ take k c) i p → Has c p
  Has_turn i p at = elim (At_turn i p at) [ inl front ↦ (k + i, front.1) | inr back ↦ (i - (length c - k), back.2) ]

  -- a turned list has each point once, where the list has
  pub turn_once : StandOnce c → StandOnce (drop k c ++ take k c)
  turn_once once i j p a b =
      elim (At_turn i p a) [
        | inl x ↦ elim (At_turn j p b) [
          | inl y ↦ (let e = once (k + i) (k + j) p x.1 y.1 in omega (arith, e))
          | inr y ↦ (let e = once (k + i) (j - (length c - k)) p x.1 y.2 in absurd (omega (arith, e, y.1)))
        ]
        | inr x ↦ elim (At_turn j p b) [
          | inl y ↦ (let e = once (i - (length c - k)) (k + j) p x.2 y.1 in absurd (omega (arith, e, x.1)))
          | inr y ↦ (let e = once (i - (length c - k)) (j - (length c - k)) p x.2 y.2 in omega (arith, e, x.0, y.0))
        ]
      ]

  pub turn_cycle : (depends : P → List P) → IsCycle depends c → IsCycle depends (drop k c ++ take k c)
  turn_cycle depends cycle = record {
    some = rw turn_length cycle.some;
    next = λ i p q a b.
        elim (At_turn i p a) [
          | inl x ↦ elim (At_turn (i + 1) q b) [
            | inl y ↦ cycle.next (k + i) p q x.1 (let e : k + (i + 1) ≡ k + i + 1 = omega arith in subst (λ j. At c j q) e y.1)
            | inr y ↦ cycle.closed q p (let e : i + 1 - (length c - k) ≡ 0 = omega (arith, x.0, y.0) in subst (λ j. At c j q) e y.2)
                (let e : k + i ≡ length c - 1 = omega (arith, x.0, y.0) in subst (λ j. At c j p) e x.1)
          ]
          | inr x ↦ elim (At_turn (i + 1) q b) [
            | inl y ↦ absurd (omega (arith, x.0, y.0))
            | inr y ↦ cycle.next (i - (length c - k)) p q x.2
                (let e : i + 1 - (length c - k) ≡ i - (length c - k) + 1 = omega (arith, x.0) in subst (λ j. At c j q) e y.2)
          ]
        ];
    closed = λ first last a b.
        elim (At_turn 0 first a) [
          | inl x ↦ (let at_k : At c k first = (let e : k + 0 ≡ k = omega arith in subst (λ j. At c j first) e x.1) in
              elim (At_turn (length (drop k c ++ take k c) - 1) last b) [
                | inl y ↦ (let f = turn_length in
                    let e : k ≡ 0 = omega (arith, y.0, f) in
                    let g : k + (length (drop k c ++ take k c) - 1) ≡ length c - 1 = omega (arith, e, f) in
                    cycle.closed first last (subst (λ j. At c j first) e at_k) (subst (λ j. At c j last) g y.1))
                | inr y ↦ (let f = turn_length in
                    let g : length (drop k c ++ take k c) - 1 - (length c - k) + 1 ≡ k = omega (arith, y.0, y.1, f) in
                    cycle.next (length (drop k c ++ take k c) - 1 - (length c - k)) last first y.2 (subst (λ j. At c j first) (sym g) at_k))
              ])
          | inr x ↦ absurd (omega (arith, x.0))
        ];
  }

pub turn_below : (n : ℕ) (depends : ℕ → List ℕ) (c : List ℕ) (k : ℕ) → k < length c → IsCycleBelow n depends c → IsCycleBelow n depends (drop k c ++ take k c)
turn_below n depends c k lt cycle = record {
  within = λ i p at. let has = Has_turn c k lt i p at in cycle.within has.0 p has.1;
  closes = turn_cycle c k lt depends cycle.closes;
}

-- the first of the turned list is the least, where the list was turned to the least
pub turn_least : (c : List ℕ) (k : ℕ) → k < length c → ((i p : ℕ) → At c i p → get_or c k 0 ≤ p)
    → (i first p : ℕ) → At (drop k c ++ take k c) 0 first → At (drop k c ++ take k c) i p → first ≤ p
turn_least c k lt least i first p a b =
    let has = Has_turn c k lt i p b in
    let e : get_or c k 0 ≡ first = elim (At_turn c k lt 0 first a) [
      | inl x ↦ (let at_k : At c k first = (let f : k + 0 ≡ k = omega arith in subst (λ j. At c j first) f x.1) in At_same c k (get_or c k 0) first (slice_get-get_or c k 0 lt) at_k)
      | inr x ↦ absurd (omega (arith, x.0))
    ] in
    let g = least has.0 p has.1 in omega arith
