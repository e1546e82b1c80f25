-- Orders and cycles of the numbers of points are orders and cycles of the points.
use Rattle.std.proofs.Common.{◌≡◌, ℕ, zero, suc, ◌+◌, ◌-◌, ◌<◌, List, [], ◌∷◌, ◌++◌, Some, None, Option, inl, inr, refl, ap, sym, ◌∙◌, subst, length, map, get_or, take, All, arith}
use Rattle.std.specs.Prelude.{slice_get}
use Rattle.std.proofs.lemmas.Bool.{cases_lt}
use Rattle.std.proofs.lemmas.List.{length-map, get_or_past, map_push, take_more}
use Rattle.std.proofs.lemmas.List.Elements.{All-from_get_or}
use Rattle.std.proofs.lemmas.Option.{same_Some, slice_get_within, slice_get-get_or}
use Rattle.ice_base_values.specs.Order.{At, Has, StandOnce, StandsAfter, IsOrder, IsCycle, IsCycleBelow}
use Rattle.ice_base_values.specs.Graph.{depends_of, IsWithin}
use Rattle.ice_decode.specs.Points.{IsGraphOf}

-- what stands at a place of a list, where two lists are the same through f and g
at_through : {A B C : Type 0} (f : A → C) (g : B → C) (xs : List A) (ys : List B) → map f xs ≡ map g ys
    → (k : ℕ) (x : A) → At xs k x → (y : B) × At ys k y × (f x ≡ g y)
at_through f g [] ys e k x at = cc at
at_through f g (a ∷ xs) [] e k x at = absurd (cc e)
at_through f g (a ∷ xs) (b ∷ ys) e zero x at = (b, refl, (let same : a ≡ x = same_Some a x at in cc))
at_through f g (a ∷ xs) (b ∷ ys) e (suc k) x at = at_through f g xs ys (cc) k x at

length_through : {A B C : Type 0} (f : A → C) (g : B → C) (xs : List A) (ys : List B) → map f xs ≡ map g ys → length xs ≡ length ys
length_through f g xs ys e = sym (length-map xs f) ∙ ap length e ∙ length-map ys g

-- rows that go together with the points, one by one, are the graph of the points
pub graph_from : {P : Type 0} (list : List P) (depends : P → List P) (rows : List (List ℕ))
    → map (λ row. map (slice_get list) row) rows ≡ map (λ p. map (λ q. Some q) (depends p)) list → IsGraphOf list depends rows
graph_from {P} list depends rows e = record {
  count = length_through (λ row. map (slice_get list) row) (λ (p : P). map (λ q. Some q) (depends p)) rows list e;
  rows_are = λ n p at.
      let lt : n < length rows = (let h = slice_get_within list n p at in let long = length_through (λ row. map (slice_get list) row) (λ (p : P). map (λ q. Some q) (depends p)) rows list e in omega arith) in
      let found = at_through (λ row. map (slice_get list) row) (λ (p : P). map (λ q. Some q) (depends p)) rows list e n (get_or rows n []) (slice_get-get_or rows n [] lt) in
      let same : found.0 ≡ p = same_Some found.0 p (sym found.1 ∙ at) in
      found.2 ∙ ap (λ q. map (λ r. Some r) (depends q)) same;
}

-- one point more
pub graph_more : {P : Type 0} (list : List P) (depends : P → List P) (rows : List (List ℕ)) (row : List ℕ) (i : ℕ) (d : P)
    → map (λ r. map (slice_get list) r) rows ≡ map (λ p. map (λ q. Some q) (depends p)) (take i list) → i < length list
    → map (slice_get list) row ≡ map (λ q. Some q) (depends (get_or list i d))
    → map (λ r. map (slice_get list) r) (rows ++ row ∷ []) ≡ map (λ p. map (λ q. Some q) (depends p)) (take (i + 1) list)
graph_more {P} list depends rows row i d so_far lt more =
    map_push (λ (r : List ℕ). map (slice_get list) r) rows row
    ∙ ap (λ xs. xs ++ map (slice_get list) row ∷ []) so_far
    ∙ ap (λ x. map (λ (p : P). map (λ q. Some q) (depends p)) (take i list) ++ x ∷ []) more
    ∙ sym (map_push (λ (p : P). map (λ q. Some q) (depends p)) (take i list) (get_or list i d))
    ∙ ap (map (λ (p : P). map (λ q. Some q) (depends p))) (sym (take_more list i d lt))

module _ {P : Type 0} (list : List P) (depends : P → List P) (rows : List (List ℕ)) (graph : IsGraphOf list depends rows) where
  -- a number in the row of a point is that of a point that it depends on
  pub read_of : (n m : ℕ) (p : P) → At list n p → Has (depends_of rows n) m → (q : P) × Has (depends p) q × At list m q
  read_of n m p at has =
      let found = at_through (slice_get list) (λ (q : P). Some q) (depends_of rows n) (depends p) (graph.rows_are n p at) has.0 m has.1 in
      (found.0, (has.0, found.1), found.2)

  -- what a point depends on has its number in the row
  pub number_of : (n : ℕ) (p q : P) → At list n p → Has (depends p) q → (m : ℕ) × Has (depends_of rows n) m × At list m q
  number_of n p q at has =
      let found = at_through (λ (r : P). Some r) (slice_get list) (depends p) (depends_of rows n) (sym (graph.rows_are n p at)) has.0 q has.1 in
      (found.0, (has.0, found.1), sym found.2)

  pub within : IsWithin rows
  within = record {
    points = λ n m has. elim (cases_lt n (length rows)) [
      | inl lt ↦ (let inside : n < length list = (let count = graph.count in omega arith) in by n m has inside (slice_get list n) refl)
      | inr le ↦ (let none : depends_of rows n ≡ [] = get_or_past rows n [] le in
          let at : At [] has.0 m = subst (λ (row : List ℕ). At row has.0 m) none has.1 in cc at)
    ];
  }
    where
      by : (n m : ℕ) → Has (depends_of rows n) m → n < length list → (o : Option P) → slice_get list n ≡ o → m < length rows
      by n m has inside None e = absurd (none_within list n inside e)
        where
          none_within : (xs : List P) (k : ℕ) → k < length xs → slice_get xs k ≡ None → ⊥
          none_within [] k lt f = omega arith
          none_within (x ∷ xs) zero lt f = cc f
          none_within (x ∷ xs) (suc k) lt f = none_within xs k (omega arith) f
      by n m has inside (Some p) e =
          let read = read_of n m p e has in
          let lt : m < length list = slice_get_within list m read.0 read.2 in
          let count = graph.count in omega arith

  -- ---- an order
  module _ (numbers : List ℕ) (points : List P) (same : map (λ p. Some p) points ≡ map (slice_get list) numbers) where
    number_at : (i : ℕ) (p : P) → At points i p → (n : ℕ) × At numbers i n × At list n p
    number_at i p at =
        let found = at_through (λ (q : P). Some q) (slice_get list) points numbers same i p at in
        (found.0, found.1, sym found.2)

    point_at : (i n : ℕ) → At numbers i n → (p : P) × At points i p × At list n p
    point_at i n at =
        let found = at_through (slice_get list) (λ (q : P). Some q) numbers points (sym same) i n at in
        (found.0, found.1, found.2)

    pub order_within : (p : P) → Has points p → Has list p
    order_within p has = let found = number_at has.0 p has.1 in (found.0, found.2)

    pub order_long : IsOrder (length rows) (depends_of rows) numbers → length points ≡ length list
    order_long o = length_through (λ (q : P). Some q) (slice_get list) points numbers same ∙ o.count ∙ graph.count

    pub order_each : IsOrder (length rows) (depends_of rows) numbers → (p : P) → Has list p → Has points p
    order_each o p has =
        let lt : has.0 < length rows = (let h = slice_get_within list has.0 p has.1 in let count = graph.count in omega arith) in
        let there = o.each has.0 lt in
        let found = point_at there.0 has.0 there.1 in
        (there.0, subst (At points there.0) (same_Some found.0 p (sym found.2 ∙ has.1)) found.1)

    pub points_once : StandOnce list → StandOnce numbers → StandOnce points
    points_once list_once once i j p a b =
        let x = number_at i p a in
        let y = number_at j p b in
        let e : y.0 ≡ x.0 = list_once y.0 x.0 p y.2 x.2 in
        once i j x.0 x.1 (subst (λ n. At numbers j n) e y.1)

    pub order_after : StandOnce list → IsOrder (length rows) (depends_of rows) numbers → StandsAfter depends points
    order_after list_once o i p q at has =
        let x = number_at i p at in
        let m = number_of x.0 p q x.2 has in
        let before = o.after i x.0 m.0 x.1 m.1 in
        let found = point_at before.0 m.0 before.2 in
        (before.0, before.1, subst (At points before.0) (same_Some found.0 q (sym found.2 ∙ m.2)) found.1)

    -- ---- a cycle
    pub cycle_of : IsCycle (depends_of rows) numbers → IsCycle depends points
    cycle_of c = record {
      some = (let long = length_through (λ (q : P). Some q) (slice_get list) points numbers same in let h = c.some in omega arith);
      next = λ i p q a b.
          let x = number_at i p a in
          let y = number_at (i + 1) q b in
          let read = read_of x.0 y.0 p x.2 (c.next i x.0 y.0 x.1 y.1) in
          subst (Has (depends p)) (same_Some read.0 q (sym read.2 ∙ y.2)) read.1;
      closed = λ first last a b.
          let long : length points ≡ length numbers = length_through (λ (q : P). Some q) (slice_get list) points numbers same in
          let x = number_at 0 first a in
          let y = number_at (length points - 1) last b in
          let there : At numbers (length numbers - 1) y.0 = subst (λ k. At numbers (k - 1) y.0) long y.1 in
          let read = read_of y.0 x.0 last y.2 (c.closed x.0 y.0 x.1 there) in
          subst (Has (depends last)) (same_Some read.0 first (sym read.2 ∙ x.2)) read.1;
    }

-- ---- the numbers are those of points
pub order_below : {P : Type 0} (list : List P) (points : ℕ) (depends : ℕ → List ℕ) (order : List ℕ) → points ≡ length list → IsOrder points depends order → All (λ n. n < length list) order
order_below list points depends order long o =
    All-from_get_or (λ n. n < length list) order 0 (λ i lt. let below : get_or order i 0 < points = o.within i (get_or order i 0) (slice_get-get_or order i 0 lt) in omega arith)

pub cycle_below : {P : Type 0} (list : List P) (points : ℕ) (depends : ℕ → List ℕ) (cycle : List ℕ) → points ≡ length list → IsCycleBelow points depends cycle → All (λ n. n < length list) cycle
cycle_below list points depends cycle long c =
    All-from_get_or (λ n. n < length list) cycle 0 (λ i lt. let below : get_or cycle i 0 < points = c.within i (get_or cycle i 0) (slice_get-get_or cycle i 0 lt) in omega arith)
