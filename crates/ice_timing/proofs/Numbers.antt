-- The latest of some numbered points.
use Rattle.std.proofs.Common.{◌≡◌, ◌⊎◌, ℕ, ◌+◌, ◌<◌, ◌≤◌, All, List, [], ◌∷◌, length, map, get_or, Option, Some, None, inl, inr, refl, sym, ap, ◌∙◌, subst, arith}
use Rattle.std.specs.Prelude.{slice_get, slice_index_or, IfNone, IfSome}
use Rattle.std.proofs.lemmas.Bool.{cases_eq}
use Rattle.std.proofs.lemmas.Option.{slice_get-get_or, get_or_from_slice_get}
use Rattle.ice_base_values.specs.Order.{At, Has}
use Rattle.ice_base_values.proofs.Members.{Has_all, Has_read, At_map, map_At, At_within}
use Rattle.ice_base_values.proofs.Places.{At_same}
use Rattle.ice_chip.specs.Database.{Parts}
use Rattle.ice_chip.specs.IsRead.{IsRead}
use Rattle.ice_bits.specs.Configuration.{Bits}
use Rattle.ice_decode.specs.declared.point.Point.{Point}
use Rattle.ice_decode.specs.Points.{HasWire, AreAllPoints, IsNumbered}
use Rattle.ice_decode.specs.Reads.{reads_at}
use Rattle.ice_decode.proofs.Numbered.{has_wire, reads_numbered}
use Rattle.ice_timing.specs.Arriving.{ArrivalsData, IsLatestPoint}
use Rattle.ice_timing.specs.Latest.{IsLatestOf, IsLatestRead, IsLatest}

-- ---- as the numbers are gone over
pub record IsLatestSoFar (at numbers : List ℕ) (count n : ℕ) : Type 0 where
  pub one : Has numbers n
  pub within : n < length at
  pub most : (j m : ℕ) → j < count → At numbers j m → slice_index_or at m 0 ≤ slice_index_or at n 0

pub none_so_far : (at numbers : List ℕ) (d : ℕ) → All (λ n. n < length at) numbers → 0 < length numbers → IsLatestSoFar at numbers 0 (get_or numbers 0 d)
none_so_far at numbers d all lt =
    let has = Has_read numbers 0 d lt in
    record { one = has; within = Has_all (λ n. n < length at) numbers (get_or numbers 0 d) all has; most = λ j m below. absurd (omega (arith, below)) }

pub one_more : (at numbers : List ℕ) (i d old new : ℕ) → All (λ n. n < length at) numbers → i < length numbers → IsLatestSoFar at numbers i old
    → (new ≡ old) ⊎ (new ≡ get_or numbers i d) → slice_index_or at old 0 ≤ slice_index_or at new 0 → slice_index_or at (get_or numbers i d) 0 ≤ slice_index_or at new 0
    → IsLatestSoFar at numbers (i + 1) new
one_more at numbers i d old new all lt so_far either above here =
    let has : Has numbers new = elim either [ inl e ↦ subst (Has numbers) (sym e) so_far.one | inr e ↦ subst (Has numbers) (sym e) (Has_read numbers i d lt) ] in
    record {
      one = has;
      within = Has_all (λ n. n < length at) numbers new all has;
      most = λ j m below there. elim (cases_eq j i) [
        | inl e ↦ (let same : get_or numbers i d ≡ m = At_same numbers i (get_or numbers i d) m (slice_get-get_or numbers i d lt) (subst (λ k. At numbers k m) e there) in
            subst (λ k. slice_index_or at k 0 ≤ slice_index_or at new 0) same here)
        | inr ne ↦ (let le = so_far.most j m (omega (arith, below, ne)) there in omega (arith, le, above))
      ];
    }

pub all_seen : (at numbers : List ℕ) (i n : ℕ) → length numbers ≤ i → IsLatestSoFar at numbers i n → IsLatestOf at numbers n
all_seen at numbers i n le so_far = record {
  one = so_far.one;
  most = λ m has. so_far.most has.0 m (let lt = At_within numbers has.0 m has.1 in omega (arith, le, lt)) has.1;
}

pub none_there : (numbers : List ℕ) → length numbers ≡ 0 → numbers ≡ []
none_there [] e = refl
none_there (n ∷ numbers) e = cc

-- ---- as points
module _ (points reads_at : List Point) (row : List ℕ) (same : map (slice_get points) row ≡ map (λ p. Some p) reads_at) where
  -- what stands at a number of the row is read
  number_reads : (n : ℕ) → Has row n → (p : Point) × Has reads_at p × At points n p
  number_reads n has =
      let at : At (map (λ (p : Point). Some p) reads_at) has.0 (slice_get points n) = subst (λ (l : List (Option Point)). At l has.0 (slice_get points n)) same (At_map (slice_get points) row has.0 n has.1) in
      let found = map_At (λ (p : Point). Some p) reads_at has.0 (slice_get points n) at in
      (found.0, (has.0, found.1), sym found.2)

  -- and what is read has a number in the row
  read_number : (p : Point) → Has reads_at p → (n : ℕ) × Has row n × At points n p
  read_number p has =
      let at : At (map (slice_get points) row) has.0 (Some p) = subst (λ (l : List (Option Point)). At l has.0 (Some p)) (sym same) (At_map (λ (q : Point). Some q) reads_at has.0 p has.1) in
      let found = map_At (slice_get points) row has.0 (Some p) at in
      (found.0, (has.0, found.1), found.2)

  pub numbers_within : (long : ℕ) → long ≡ length points → All (λ n. n < long) row
  numbers_within long e = λ k d lt.
      (let there = number_reads (get_or row k d) (Has_read row k d lt) in
      let below = At_within points (get_or row k d) there.0 there.2 in
      omega (arith, e, below))

  pub none_read : row ≡ [] → reads_at ≡ []
  none_read e = by reads_at (sym same ∙ ap (map (slice_get points)) e)
    where
      by : (rs : List Point) → map (λ (p : Point). Some p) rs ≡ [] → rs ≡ []
      by [] f = refl
      by (r ∷ rs) f = cc

  pub latest_read : (at : List ℕ) (n : ℕ) → ((p : Point) (i j : ℕ) → At points i p → At points j p → i ≡ j) → IsLatestOf at row n → IsLatestRead points at reads_at n
  latest_read at n once latest =
      let here = number_reads n latest.one in
      record {
        point = here.0;
        one = here.1;
        stands = here.2;
        most = λ q m has there.
            (let number = read_number q has in
            let e : number.0 ≡ m = once q number.0 m number.2 there in
            subst (λ k. slice_index_or at k 0 ≤ slice_index_or at n 0) e (latest.most number.0 number.1));
      }

  pub latest_is : (at : List ℕ) → ((p : Point) (i j : ℕ) → At points i p → At points j p → i ≡ j) → (found : Option ℕ) → IfNone found (row ≡ []) → IfSome found (IsLatestOf at row)
      → IsLatest points at reads_at found
  latest_is at once None none some = none_read none
  latest_is at once (Some n) none some = latest_read at n once some

pub latest_within : (points reads_at : List Point) (at : List ℕ) (n : ℕ) → length at ≡ length points → IsLatestRead points at reads_at n → n < length at
latest_within points reads_at at n long latest = let lt = At_within points n latest.point latest.stands in omega (arith, long, lt)

-- the same by the arrivals
pub latest_point : (a : ArrivalsData) (reads_at others : List Point) (n : ℕ) (e : Point) → length a.at ≡ length a.points → others ≡ a.points → IsLatestRead a.points a.at reads_at n
    → IsLatestPoint a reads_at (get_or others n e)
latest_point a reads_at others n e long is latest =
    let same : latest.point ≡ get_or others n e = sym (ap (λ (l : List Point). get_or l n e) is ∙ get_or_from_slice_get a.points n latest.point e latest.stands) in
    record {
      one = subst (Has reads_at) same latest.one;
      moment = get_or a.at n 0;
      arrives = (n, subst (At a.points n) same latest.stands, slice_get-get_or a.at n 0 (latest_within a.points reads_at a.at n long latest));
      most = λ q other has arrives.
          (let le = latest.most q arrives.0 has arrives.1 in
          subst (λ m. m ≤ get_or a.at n 0) (get_or_from_slice_get a.at arrives.0 other 0 arrives.2) le);
    }

-- ---- points of the chip
-- what a numbered point reads is numbered
pub reads_there : (parts : Parts) (bits : Bits) (extras : List (ℕ × ℕ × ℕ)) → IsRead parts → (list : List Point) → AreAllPoints parts list → (p : Point) → Has list p → All (IsNumbered list) (reads_at parts bits extras p)
reads_there parts bits extras read list all p has =
    subst (λ (q : Point). All (IsNumbered list) (reads_at parts bits extras q)) (get_or_from_slice_get list has.0 p p has.1)
    (reads_numbered parts bits extras read list list all refl has.0 p (At_within list has.0 p has.1))

-- the wire of a numbered point is one of the chip
pub wire_there : (parts : Parts) (list : List Point) → AreAllPoints parts list → (p : Point) → Has list p → HasWire parts p
wire_there parts list all p has =
    subst (HasWire parts) (get_or_from_slice_get list has.0 p p has.1) (has_wire parts list list all refl has.0 p (At_within list has.0 p has.1))
