-- Without a loop each point has a value: a walk along what points depend on that meets no point twice is no longer than there are
-- points, and one that meets a point again closes a loop.
use Rattle.std.proofs.Common.{◌≡◌, ℕ, zero, suc, ◌+◌, ◌-◌, ◌<◌, ◌≤◌, Bool, true, false, Some, List, [], ◌∷◌, ◌++◌, inl, inr, refl, ap, sym, ◌∙◌, subst, eqb, length, map, get_or, drop, arith, length-append}
use Rattle.std.specs.List.{list_any}
use Rattle.std.proofs.lemmas.Bool.{eqb-true, eq-eqb, ne_eqb}
use Rattle.std.proofs.lemmas.List.{length-map, length-drop}
use Rattle.std.proofs.lemmas.Map.Keys.{IsDistinct-from_apart}
use Rattle.std.proofs.lemmas.Map.Steps.{length-le_from_distinct_below}
use Rattle.std.proofs.lemmas.Option.{slice_get_within, slice_get-get_or, get_or_from_slice_get, same_Some}
use Rattle.ice_base_values.specs.System.{System, value}
use Rattle.ice_base_values.specs.Order.{At, Has, StandOnce, Descends, IsCycle}
use Rattle.ice_base_values.proofs.Places.{At_same, At_drop, At_push_cases, At_push_new}
use Rattle.ice_base_values.proofs.Values.{value_there}
use Rattle.ice_decode.proofs.Members.{At_map_cases, Has_any, Has_none, once_push}

-- different numbers below n are at most n
once_below : (path : List ℕ) (n : ℕ) → StandOnce path → ((i k : ℕ) → At path i k → k < n) → length path ≤ n
once_below path n once below =
    length-le_from_distinct_below path n
    (IsDistinct-from_apart eqb path
    (λ i j d lt inside. ne_eqb (get_or path i d) (get_or path j d)
    (λ e. let here = slice_get-get_or path i d (omega arith) in
    let there = slice_get-get_or path j d inside in
    let same = once i j (get_or path j d) (subst (At path i) e here) there in omega arith)))
    (λ q e. let has = Has_any (eqb q) q (λ y f. eqb-true q y f) path e in below has.0 q has.1)

module _ {P A : Type 0} (system : System P A) (points : List P) (other : P) where
  abbrev point : ℕ → P
  point k = get_or points k other

  -- places of different points, each of which depends on the next
  record IsWalk (path : List ℕ) : Type 0 where
    pub once : StandOnce path
    pub below : (i k : ℕ) → At path i k → k < length points
    pub edges : (i k m : ℕ) → At path i k → At path (i + 1) m → Has (system.depends (point k)) (point m)

  -- a point of a walk on which its last point depends closes a loop
  closes : (path : List ℕ) (last i m : ℕ) → IsWalk path → At path (length path - 1) last → At path i m → Has (system.depends (point last)) (point m)
      → IsCycle system.depends (map point (drop i path))
  closes path last i m walk end at back = record {
    some = (let lt = slice_get_within path i m at in let a = length-map (drop i path) point in let b = length-drop i path in omega arith);
    next = λ j p q a b.
        let x = At_map_cases point (drop i path) j p a in
        let y = At_map_cases point (drop i path) (j + 1) q b in
        let e : i + (j + 1) ≡ i + j + 1 = omega arith in
        let edge = walk.edges (i + j) x.0 y.0 (sym (At_drop path i j) ∙ x.1) (subst (λ n. At path n y.0) e (sym (At_drop path i (j + 1)) ∙ y.1)) in
        subst (λ r. Has (system.depends r) q) x.2 (subst (Has (system.depends (point x.0))) y.2 edge);
    closed = λ p q a b.
        let x = At_map_cases point (drop i path) 0 p a in
        let y = At_map_cases point (drop i path) (length (map point (drop i path)) - 1) q b in
        let lt = slice_get_within path i m at in
        let long = length-map (drop i path) point in
        let cut = length-drop i path in
        let e : i + 0 ≡ i = omega arith in
        let f : i + (length (map point (drop i path)) - 1) ≡ length path - 1 = omega arith in
        let first : m ≡ x.0 = At_same path i m x.0 at (subst (λ n. At path n x.0) e (sym (At_drop path i 0) ∙ x.1)) in
        let final : last ≡ y.0 = At_same path (length path - 1) last y.0 end (subst (λ n. At path n y.0) f (sym (At_drop path i (length (map point (drop i path)) - 1)) ∙ y.1)) in
        subst (λ r. Has (system.depends r) p) (ap point final ∙ y.2) (subst (Has (system.depends (point last))) (ap point first ∙ x.2) back);
  }

  -- a walk of one point
  alone : (k : ℕ) → k < length points → IsWalk (k ∷ [])
  alone k lt = record { once = once; below = below; edges = λ i m n a b. past i m n b }
    where
      once : StandOnce (k ∷ [])
      once zero zero m a b = refl
      once zero (suc j) m a b = cc b
      once (suc i) j m a b = cc a

      below : (i m : ℕ) → At (k ∷ []) i m → m < length points
      below zero m at = subst (λ n. n < length points) (same_Some k m at) lt
      below (suc i) m at = cc at

      past : (i m n : ℕ) → At (k ∷ []) (i + 1) n → Has (system.depends (point m)) (point n)
      past i m n at = let lt' = slice_get_within (k ∷ []) (i + 1) n at in absurd (omega arith)

  -- one point more
  longer : (path : List ℕ) (last m : ℕ) → IsWalk path → At path (length path - 1) last → m < length points → (Has path m → ⊥)
      → Has (system.depends (point last)) (point m) → IsWalk (path ++ m ∷ [])
  longer path last m walk end lt new dep = record {
    once = once_push path m walk.once new;
    below = λ i k at. elim (At_push_cases path m i k at) [ inl old ↦ walk.below i k old | inr now ↦ subst (λ n. n < length points) now.1 lt ];
    edges = λ i k n a b. elim (At_push_cases path m (i + 1) n b) [
      | inl old ↦ elim (At_push_cases path m i k a) [
        | inl both ↦ walk.edges i k n both old
        | inr past ↦ (let inside = slice_get_within path (i + 1) n old in let e = past.0 in absurd (omega arith))
      ]
      | inr now ↦ elim (At_push_cases path m i k a) [
        | inl before ↦ (let e : i ≡ length path - 1 = (let f = now.0 in omega arith) in
            let same : last ≡ k = At_same path (length path - 1) last k end (subst (λ j. At path j k) e before) in
            subst (λ j. Has (system.depends (point j)) (point n)) same (subst (λ j. Has (system.depends (point last)) (point j)) now.1 dep))
        | inr past ↦ (let e = past.0 in let f = now.0 in absurd (omega arith))
      ]
    ];
  }

  -- the rank of a point at the end of a walk: how many points are left
  record IsAhead (rank : ℕ) (p : P) : Type 0 where
    pub path : List ℕ
    pub walk : IsWalk path
    pub last : ℕ
    pub ends : At path (length path - 1) last
    pub is : point last ≡ p
    pub left : length path + rank ≡ length points

  module _ (closed : (p q : P) → Has points p → Has (system.depends p) q → Has points q) (none : (cycle : List P) → IsCycle system.depends cycle → ⊥) where
    falls : Descends system.depends IsAhead
    falls rank p q ahead dep =
        let lt = ahead.walk.below (length ahead.path - 1) ahead.last ahead.ends in
        let here : Has points p = (ahead.last, slice_get-get_or points ahead.last other lt ∙ ap (λ (r : P). Some r) ahead.is) in
        let there = closed p q here dep in
        let is : point there.0 ≡ q = get_or_from_slice_get points there.0 q other there.1 in
        let edge : Has (system.depends (point ahead.last)) (point there.0)
        = subst (λ r. Has (system.depends r) (point there.0)) (sym ahead.is) (subst (Has (system.depends p)) (sym is) dep) in
        by there.0 (slice_get_within points there.0 q there.1) is edge (list_any (eqb there.0) ahead.path) refl
      where
        by : (m : ℕ) → m < length points → point m ≡ q → Has (system.depends (point ahead.last)) (point m) → (b : Bool) → list_any (eqb m) ahead.path ≡ b
            → (lower : ℕ) × (lower < rank) × IsAhead lower q
        by m lt is edge true e =
            let has = Has_any (eqb m) m (λ y f. eqb-true m y f) ahead.path e in
            absurd (none (map point (drop has.0 ahead.path)) (closes ahead.path ahead.last has.0 m ahead.walk ahead.ends has.1 edge))
        by m lt is edge false e =
            let walk = longer ahead.path ahead.last m ahead.walk ahead.ends lt (Has_none (eqb m) m (eq-eqb m m refl) ahead.path e) edge in
            let few = once_below (ahead.path ++ m ∷ []) (length points) walk.once walk.below in
            let long = length-append ahead.path (m ∷ []) in
            let left = ahead.left in
            let end : length ahead.path ≡ length (ahead.path ++ m ∷ []) - 1 = omega arith in (
              rank - 1,
              omega arith,
              record {
                path = ahead.path ++ m ∷ [];
                walk = walk;
                last = m;
                ends = subst (λ i. At (ahead.path ++ m ∷ []) i m) end (At_push_new ahead.path m);
                is = is;
                left = omega arith;
              },
            )

    -- each point has a value, with as many steps as there are points, and one more
    pub all_valued : (p : P) → Has points p → (x : A) × (value system (length points + 1) p ≡ Some x)
    all_valued p has =
        let lt = slice_get_within points has.0 p has.1 in
        value_there system IsAhead falls (length points + 1) (length points - 1) p
        (record {
          path = has.0 ∷ [];
          walk = alone has.0 lt;
          last = has.0;
          ends = refl;
          is = get_or_from_slice_get points has.0 p other has.1;
          left = omega arith;
        }) (omega arith)
