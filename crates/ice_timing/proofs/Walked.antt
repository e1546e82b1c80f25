-- A longest path to a point that is found from its end.
use Rattle.std.proofs.Common.{◌≡◌, ℕ, zero, suc, ◌+◌, ◌-◌, ◌<◌, ◌≤◌, List, [], ◌∷◌, ◌++◌, length, map, Some, refl, sym, ap, ◌∙◌, subst, arith}
use Rattle.std.specs.Prelude.{sum_by, reverse}
use Rattle.std.proofs.lemmas.Option.{same_Some}
use Rattle.std.proofs.lemmas.List.{reverse-append}
use Rattle.std.proofs.lemmas.List.Sums.{sum_by-cons}
use Rattle.ice_base_values.specs.Order.{At, Has}
use Rattle.ice_base_values.proofs.Members.{At_within}
use Rattle.ice_chip.specs.Database.{Parts}
use Rattle.ice_bits.specs.Configuration.{Bits}
use Rattle.ice_decode.specs.declared.point.Point.{Point}
use Rattle.ice_decode.specs.Loops.{IsOrderOf}
use Rattle.ice_decode.specs.Reads.{depends_on}
use Rattle.ice_timing_delays.specs.declared.delays.Delays.{Delays}
use Rattle.ice_timing.specs.Arriving.{ArrivalsData, Arrives, AreArrivalsOf, IsLatestPoint, IsBefore}
use Rattle.ice_timing.specs.Paths.{IsPath, IsPathTo, IsArrival}
use Rattle.ice_timing.specs.PointDelays.{start_of, delay_of, IsArrivalAt, path_length}
use Rattle.ice_timing.specs.Timed.{AreArrivals, points_of, IsTimedTo}
use Rattle.ice_timing.proofs.Greatest.{first_arrival, later_arrival, arrival_once}

-- the way from a point to the last one, and the points behind the first with their arrivals
pub record IsWalked (parts : Parts) (bits : Bits) (extras : List (ℕ × ℕ × ℕ)) (d : Delays) (order : List Point) (last : Point) (long count : ℕ) (p : Point) (behind : List (Point × ℕ)) : Type 0 where
  pub later : (i : ℕ) (x y : Point) → At (p ∷ points_of behind) i x → At (p ∷ points_of behind) (i + 1) y → Has (depends_on parts bits extras y) x
  pub ends : At (p ∷ points_of behind) (length (points_of behind)) last
  pub arrivals : AreArrivals parts bits extras d behind
  pub moment : ℕ
  pub right : IsArrivalAt parts bits extras d p moment
  pub sum : moment + sum_by (delay_of parts bits d) (points_of behind) ≡ long
  pub place : ℕ
  pub stands : At order place p
  pub room : place + count < length order

module _ (parts : Parts) (bits : Bits) (extras : List (ℕ × ℕ × ℕ)) (d : Delays) (order : List Point) (o : IsOrderOf parts bits extras order) (a : ArrivalsData) (are : AreArrivalsOf parts bits extras d a) where
  pub walk_begins : (last : Point) (long : ℕ) → Has a.points last → IsArrivalAt parts bits extras d last long → IsWalked parts bits extras d order last long 0 last []
  walk_begins last long has right =
      let there = o.each last (are.points.within last has) in
      record {
        later = later;
        ends = refl;
        arrivals = λ i point at. cc at;
        moment = long;
        right = right;
        sum = (let e : long + 0 ≡ long = omega arith in e);
        place = there.0;
        stands = there.1;
        room = (let lt = At_within order there.0 last there.1 in omega (arith, lt));
      }
    where
      later : (i : ℕ) (x y : Point) → At (last ∷ []) i x → At (last ∷ []) (i + 1) y → Has (depends_on parts bits extras y) x
      later zero x y at next = cc next
      later (suc i) x y at next = cc at

  -- the arrivals with one more in front
  more_arrivals : (p : Point) (at : ℕ) (behind : List (Point × ℕ)) → IsArrivalAt parts bits extras d p at → AreArrivals parts bits extras d behind → AreArrivals parts bits extras d ((p, at) ∷ behind)
  more_arrivals p at behind right all zero point here = subst (λ (x : Point × ℕ). IsArrivalAt parts bits extras d x.0 x.1) (same_Some (p, at) point here) right
  more_arrivals p at behind right all (suc i) point there = all i point there

  -- the arrival at a point of the order by the latest of those on which it depends
  behind_latest : (i : ℕ) (p q : Point) (here : ℕ) → At order i p → IsArrivalAt parts bits extras d p here → (latest : IsLatestPoint a (depends_on parts bits extras p) q)
      → here ≡ latest.moment + delay_of parts bits d p
  behind_latest i p q here stands right latest =
      arrival_once (depends_on parts bits extras) (start_of parts bits extras d) (delay_of parts bits d) p here (latest.moment + delay_of parts bits d p) right
      (later_arrival (depends_on parts bits extras) (start_of parts bits extras d) (delay_of parts bits d) p q latest.moment latest.one (are.right q latest.moment latest.arrives)
      (λ r has.
      (let before = o.after i p r stands has in
      let moment = are.each r (are.points.each r (o.within r (before.0, before.2))) in
      (moment.0, are.right r moment.0 moment.1, latest.most r moment.0 has moment.1))))

  pub walk_goes_on : (last : Point) (long count : ℕ) (p q : Point) (at : ℕ) (behind : List (Point × ℕ)) → IsWalked parts bits extras d order last long count p behind → Arrives a p at
      → IsLatestPoint a (depends_on parts bits extras p) q → IsWalked parts bits extras d order last long (count + 1) q ((p, at) ∷ behind)
  walk_goes_on last long count p q at behind walked arrives latest =
      let before = o.after walked.place p q walked.stands latest.one in
      record {
        later = later;
        ends = walked.ends;
        arrivals = more_arrivals p at behind (are.right p at arrives) walked.arrivals;
        moment = latest.moment;
        right = are.right q latest.moment latest.arrives;
        sum =
            (let e = sum_by-cons (delay_of parts bits d) p (points_of behind) in
            let f = behind_latest walked.place p q walked.moment walked.stands walked.right latest in
            let s = walked.sum in
            omega (arith, e, f, s));
        place = before.0;
        stands = before.2;
        room = (let lt = before.1 in let room = walked.room in omega (arith, lt, room));
      }
    where
      later : (i : ℕ) (x y : Point) → At (q ∷ p ∷ points_of behind) i x → At (q ∷ p ∷ points_of behind) (i + 1) y → Has (depends_on parts bits extras y) x
      later zero x y here next = subst (λ z. Has (depends_on parts bits extras z) x) (same_Some p y next) (subst (Has (depends_on parts bits extras p)) (same_Some q x here) latest.one)
      later (suc i) x y here next = walked.later i x y here (let e : suc i + 1 ≡ suc (i + 1) = omega arith in subst (λ n. At (q ∷ p ∷ points_of behind) n y) e next)

  pub walk_ends : (last : Point) (long count : ℕ) (p : Point) (at : ℕ) (behind : List (Point × ℕ)) → IsArrivalAt parts bits extras d last long → IsWalked parts bits extras d order last long count p behind
      → Arrives a p at → depends_on parts bits extras p ≡ [] → IsTimedTo parts bits extras d last ((p, at) ∷ behind)
  walk_ends last long count p at behind longest walked arrives free = record {
    leads = record {
      is_path = record { some = omega arith; first = λ x here. subst (λ z. depends_on parts bits extras z ≡ []) (same_Some p x here) free; later = walked.later };
      ends = (let e : length (points_of behind) ≡ length (p ∷ points_of behind) - 1 = omega arith in subst (λ n. At (p ∷ points_of behind) n last) e walked.ends);
    };
    arrivals = more_arrivals p at behind (are.right p at arrives) walked.arrivals;
    long =
        (let e = arrival_once (depends_on parts bits extras) (start_of parts bits extras d) (delay_of parts bits d) p walked.moment (start_of parts bits extras d p) walked.right
        (first_arrival (depends_on parts bits extras) (start_of parts bits extras d) (delay_of parts bits d) p free) in
        let same : long ≡ start_of parts bits extras d p + sum_by (delay_of parts bits d) (points_of behind) = sym walked.sum ∙ ap (λ n. n + sum_by (delay_of parts bits d) (points_of behind)) e in
        subst (IsArrivalAt parts bits extras d last) same longest);
  }

  -- ---- whatever the length to the last point is
  pub walk_there : (last : Point) (count : ℕ) (p : Point) (behind : List (Point × ℕ)) → Has a.points last
      → ((long : ℕ) → IsArrivalAt parts bits extras d last long → IsWalked parts bits extras d order last long count p behind) → Has a.points p
  walk_there last count p behind has walks =
      let moment = are.each last has in
      let walked = walks moment.0 (are.right last moment.0 moment.1) in
      are.points.each p (o.within p (walked.place, walked.stands))

  pub walk_ends_so : (last : Point) (count : ℕ) (p : Point) (at : ℕ) (behind : List (Point × ℕ)) → Has a.points last
      → ((long : ℕ) → IsArrivalAt parts bits extras d last long → IsWalked parts bits extras d order last long count p behind) → Arrives a p at → depends_on parts bits extras p ≡ []
      → IsTimedTo parts bits extras d last ((p, at) ∷ behind)
  walk_ends_so last count p at behind has walks arrives free =
      let moment = are.each last has in
      let right = are.right last moment.0 moment.1 in
      walk_ends last moment.0 count p at behind right (walks moment.0 right) arrives free

  -- a path has no more points than the order
  pub walk_over : {X : Type 0} (last : Point) (count : ℕ) (p : Point) (behind : List (Point × ℕ)) → Has a.points last
      → ((long : ℕ) → IsArrivalAt parts bits extras d last long → IsWalked parts bits extras d order last long count p behind) → length order ≤ count → X
  walk_over last count p behind has walks le =
      let moment = are.each last has in
      let walked = walks moment.0 (are.right last moment.0 moment.1) in
      let room = walked.room in
      absurd (omega (arith, room, le))

-- what is pushed stands in front of the list that is turned round
pub turned : {X : Type 0} (xs ys : List X) (x : X) → ys ≡ xs ++ x ∷ [] → x ∷ reverse xs ≡ reverse ys
turned xs ys x e = sym (ap reverse e ∙ reverse-append xs (x ∷ []))
