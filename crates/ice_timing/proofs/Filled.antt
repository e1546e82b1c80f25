-- The arrivals at points that are found one after another in an order of evaluation.
use Rattle.std.proofs.Common.{◌≡◌, ◌⊎◌, ℕ, zero, suc, ◌+◌, ◌*◌, ◌^◌, ◌<◌, ◌≤◌, List, [], ◌∷◌, length, get_or, set, replicate, Some, inl, inr, refl, sym, ap, ◌∙◌, subst, arith, get_or-set_same, get_or-set_other}
use Rattle.std.specs.Prelude.{slice_index_or}
use Rattle.std.proofs.lemmas.Bool.{cases_eq}
use Rattle.std.proofs.lemmas.List.{length-set, length-replicate}
use Rattle.std.proofs.lemmas.Option.{slice_get-get_or, get_or_from_slice_get}
use Rattle.ice_base_values.specs.Order.{At, Has}
use Rattle.ice_base_values.proofs.Members.{At_within}
use Rattle.ice_base_values.proofs.Places.{At_same}
use Rattle.ice_chip.specs.Database.{Parts}
use Rattle.ice_bits.specs.Configuration.{Bits}
use Rattle.ice_decode.specs.declared.point.Point.{Point}
use Rattle.ice_decode.specs.Loops.{IsOrderOf}
use Rattle.ice_decode.specs.Points.{AreAllPoints}
use Rattle.ice_decode.specs.Reads.{depends_on}
use Rattle.ice_timing_delays.specs.declared.delays.Delays.{Delays}
use Rattle.ice_timing.specs.PointDelays.{start_of, delay_of, IsArrivalAt}
use Rattle.ice_timing.specs.Latest.{IsLatestRead}
use Rattle.ice_timing.specs.Paths.{IsArrival}
use Rattle.ice_timing.specs.Arriving.{ArrivalsData, Arrives, AreArrivalsOf, AreWithin, AreFilled, IsReached, IsStart, IsBehind, IsSoon}
use Rattle.ice_timing.proofs.Greatest.{first_arrival, later_arrival, arrival_behind}

zero_at : (n i : ℕ) → get_or (replicate n 0) i 0 ≤ 0
zero_at zero i = by i
  where
    by : (k : ℕ) → get_or (replicate zero 0) k 0 ≤ 0
    by k = omega arith
zero_at (suc n) zero = omega arith
zero_at (suc n) (suc i) = zero_at n i

pub nothing_within : (n : ℕ) → AreWithin (0 * 2 ^ 32) (replicate n 0)
nothing_within n = λ i. (let e : 0 * 2 ^ 32 ≡ 0 = omega arith in subst (λ k. get_or (replicate n 0) i 0 ≤ k) (sym e) (zero_at n i))

pub well_within : (count : ℕ) (at : List ℕ) → count < 2 ^ 31 → AreWithin (count * 2 ^ 32) at → AreWithin (2 ^ 63) at
well_within count at lt within = λ i. (let le = within i in omega (arith, lt, le))

module _ (parts : Parts) (bits : Bits) (extras : List (ℕ × ℕ × ℕ)) (d : Delays) (points order : List Point) (all : AreAllPoints parts points) (o : IsOrderOf parts bits extras order) where
  pub none_filled : (at : List ℕ) (n : ℕ) → n ≡ length points → at ≡ replicate n 0 → AreFilled parts bits extras d points order 0 at
  none_filled at n long e = record {
    long = ap length e ∙ length-replicate n 0 ∙ long;
    right = λ j p m below. absurd (omega (arith, below));
    within = subst (AreWithin (0 * 2 ^ 32)) (sym e) (nothing_within n);
  }

  -- a point of the order has a number
  pub order_numbered : (k : ℕ) (e : Point) → k < length order → Has points (get_or order k e)
  order_numbered k e lt = all.each (get_or order k e) (o.within (get_or order k e) (k, slice_get-get_or order k e lt))

  -- a point behind those that are filled
  reached_right : (k : ℕ) (at : List ℕ) (p : Point) (moment : ℕ) → AreFilled parts bits extras d points order k at → At order k p → IsReached parts bits extras d points at p moment → IsArrivalAt parts bits extras d p moment
  reached_right k at p moment filled stands (inl start) =
      subst (IsArrivalAt parts bits extras d p) (sym start.is) (first_arrival (depends_on parts bits extras) (start_of parts bits extras d) (delay_of parts bits d) p start.free)
  reached_right k at p moment filled stands (inr behind) =
      let latest = behind.latest in
      let before = o.after k p latest.point stands latest.one in
      subst (IsArrivalAt parts bits extras d p) (sym behind.is)
      (later_arrival (depends_on parts bits extras) (start_of parts bits extras d) (delay_of parts bits d) p latest.point (slice_index_or at behind.number 0) latest.one
      (filled.right before.0 latest.point behind.number before.1 before.2 latest.stands)
      (λ q has.
      (let there = o.after k p q stands has in
      let number = all.each q (o.within q (there.0, there.2)) in
      (slice_index_or at number.0 0, filled.right there.0 q number.0 there.1 there.2 number.1, latest.most q number.0 has number.1))))

  pub one_filled : (k : ℕ) (at next : List ℕ) (p : Point) (n moment : ℕ) → AreFilled parts bits extras d points order k at → At order k p → At points n p
      → IsReached parts bits extras d points at p moment → IsSoon at moment → next ≡ set at n moment → AreFilled parts bits extras d points order (k + 1) next
  one_filled k at next p n moment filled stands number reached soon e = subst (AreFilled parts bits extras d points order (k + 1)) (sym e) (record {
    long = length-set at n moment ∙ filled.long;
    right = λ j q m below there its. elim (cases_eq m n) [
      | inl same ↦ (let one : p ≡ q = At_same points n p q number (subst (λ i. At points i q) same its) in
          subst (IsArrivalAt parts bits extras d q) (sym (ap (λ i. slice_index_or (set at n moment) i 0) same ∙ get_or-set_same at n moment 0 inside))
          (subst (λ (r : Point). IsArrivalAt parts bits extras d r moment) one (reached_right k at p moment filled stands reached)))
      | inr other ↦ subst (IsArrivalAt parts bits extras d q) (sym (get_or-set_other at n m moment 0 other)) (filled.right j q m (before j q m below there its other) there its)
    ];
    within = λ m. elim (cases_eq m n) [
      | inl same ↦ (let le = soon (k * 2 ^ 32) filled.within in
          let is : slice_index_or (set at n moment) m 0 ≡ moment = ap (λ i. slice_index_or (set at n moment) i 0) same ∙ get_or-set_same at n moment 0 inside in
          omega (arith, le, is))
      | inr other ↦ (let le = filled.within m in
          let is : slice_index_or (set at n moment) m 0 ≡ slice_index_or at m 0 = get_or-set_other at n m moment 0 other in
          omega (arith, le, is))
    ];
  })
    where
      inside : n < length at
      inside = let lt = At_within points n p number in let long = filled.long in omega (arith, lt, long)

      before : (j : ℕ) (q : Point) (m : ℕ) → j < k + 1 → At order j q → At points m q → (m ≡ n → ⊥) → j < k
      before j q m below there its other = elim (cases_eq j k) [
        | inl same ↦ absurd (other (let one : p ≡ q = At_same order k p q stands (subst (λ i. At order i q) same there) in all.once m n q its (subst (At points n) one number)))
        | inr ne ↦ omega (arith, below, ne)
      ]

  -- all arrivals
  pub arrivals_right : (a : ArrivalsData) → a.points ≡ points → AreFilled parts bits extras d points order (length order) a.at → AreArrivalsOf parts bits extras d a
  arrivals_right a e filled = of a.at filled (ap (λ l. record { points = l; at = a.at }) e)
    where
      of : (at : List ℕ) → AreFilled parts bits extras d points order (length order) at → a ≡ record { points = points; at = at } → AreArrivalsOf parts bits extras d a
      of at filled is = subst (AreArrivalsOf parts bits extras d) (sym is) (record {
        points = all;
        each = λ p has. (slice_index_or at has.0 0, (has.0, has.1, slice_get-get_or at has.0 0 (let lt = At_within points has.0 p has.1 in let long = filled.long in omega (arith, lt, long))));
        right = right at filled;
        certificate = λ p q x y there before has. arrival_behind (depends_on parts bits extras) (start_of parts bits extras d) (delay_of parts bits d) p q x y has (right at filled p x there) (right at filled q y before);
      })
        where
          right : (at : List ℕ) → AreFilled parts bits extras d points order (length order) at → (p : Point) (moment : ℕ) → Arrives (record { points = points; at = at }) p moment → IsArrivalAt parts bits extras d p moment
          right at filled p moment arrives =
              let there = o.each p (all.within p (arrives.0, arrives.1)) in
              subst (IsArrivalAt parts bits extras d p) (get_or_from_slice_get at arrives.0 moment 0 arrives.2)
              (filled.right there.0 p arrives.0 (At_within order there.0 p there.1) there.1 arrives.1)
