-- The numbered points of a chip.
use Rattle.std.proofs.Common.{◌≡◌, ◌⊎◌, ℕ, ◌+◌, ◌*◌, ◌<◌, List, [], Some, inl, inr, sym, ◌∙◌, subst, ap, length, map, get_or, take, ◌++◌, ◌∷◌, All, suc, zero, None, Option, refl, arith}
use Rattle.std.specs.Prelude.{slice_get, IsSome}
use Rattle.std.specs.List.{position}
use Rattle.std.proofs.lemmas.Option.{same_Some, slice_get_within, slice_get-get_or}
use Rattle.std.proofs.lemmas.List.{take_more, map_push, map-append}
use Rattle.std.proofs.lemmas.List.Elements.{All-from_get_or}
use Rattle.ice_base.specs.declared.number.TileAt.{TileAt}
use Rattle.ice_base_values.specs.System.{present}
use Rattle.ice_base_values.specs.Order.{At, Has, StandOnce}
use Rattle.ice_base_values.proofs.Gaps.{present_more}
use Rattle.ice_chip.specs.Database.{Parts, same_tile}
use Rattle.ice_chip.specs.IsRead.{IsRead}
use Rattle.ice_bits.specs.Configuration.{Bits}
use Rattle.ice_decode.specs.declared.point.Point.{Point}
use Rattle.ice_decode.specs.declared.point.Point.TheVariants.{Wire, Carry}
use Rattle.ice_decode.specs.Cells.{logic_tiles}
use Rattle.ice_decode.specs.Different.{different}
use Rattle.ice_decode.specs.Reads.{reads_at}
use Rattle.ice_decode.specs.Points.{HasWire, points_by, AreAllPoints, IsNumbered}
use Rattle.ice_decode.proofs.DifferentTiles.{different_once, different_within, different_each, different_few, place_found}
use Rattle.ice_decode.proofs.PointPlaces.{StandsAs, carry_at, point_cases, points_once, points_within, points_long}
use Rattle.ice_decode.proofs.ReadPoints.{read_there}

none_once : StandOnce {P = TileAt} []
none_once i j t a b = cc a

pub tiles_once : (tiles : List TileAt) → StandOnce (different [] tiles)
tiles_once tiles = different_once [] tiles none_once

-- the points of the different tiles are all points, each once
pub all_points : (parts : Parts) (list : List Point) → list ≡ points_by parts.wires (different [] (logic_tiles parts)) → AreAllPoints parts list
all_points parts list e = subst (AreAllPoints parts) (sym e) (record {
  once = points_once parts.wires (different [] (logic_tiles parts)) (tiles_once (logic_tiles parts));
  within = points_within parts.wires (different [] (logic_tiles parts)) (logic_tiles parts) (λ t has. old t (different_within [] (logic_tiles parts) t has));
  each = points_within parts.wires (logic_tiles parts) (different [] (logic_tiles parts)) (λ t has. different_each [] (logic_tiles parts) t (inr has));
  few =
      let few = different_few [] (logic_tiles parts) in
      let long = points_long parts.wires (different [] (logic_tiles parts)) in
      let all = points_long parts.wires (logic_tiles parts) in
      omega arith;
})
  where
    old : (t : TileAt) → Has [] t ⊎ Has (logic_tiles parts) t → Has (logic_tiles parts) t
    old t (inl none) = cc none.1
    old t (inr has) = has

-- ---- numbers of points
module _ (list : List Point) (wires : ℕ) (tiles : List TileAt) (is : list ≡ points_by wires tiles) (p : Point) (has : Has list p) where
  stands_as : StandsAs wires tiles has.0 p
  stands_as = point_cases wires tiles has.0 p (subst (λ (l : List Point). At l has.0 p) is has.1)

  -- the number of a wire
  pub wire_number : (w : ℕ) → p ≡ Wire (record { 0 = w }) → At list w p
  wire_number w e =
      let stands : StandsAs wires tiles has.0 (Wire (record { 0 = w })) = subst (StandsAs wires tiles has.0) e stands_as in
      subst (λ n. At list n p) stands.0 has.1

  -- the tile of a carry has a place
  pub carry_place : (t : TileAt) (i : ℕ) → p ≡ Carry t i → (k : ℕ) × (position (same_tile t) tiles ≡ Some k) × At tiles k t × (i < 8)
  carry_place t i e =
      let stands : StandsAs wires tiles has.0 (Carry t i) = subst (StandsAs wires tiles has.0) e stands_as in
      let found = place_found t tiles (stands.0, stands.1) in
      (found.0, found.1, found.2, stands.2)

  pub place_there : (t : TileAt) (i : ℕ) → p ≡ Carry t i → (o : Option ℕ) → o ≡ position (same_tile t) tiles → IsSome o
  place_there t i e o f = let place = carry_place t i e in subst (λ (x : Option ℕ). IsSome x) (sym (f ∙ place.1)) refl

  -- the number of a carry, by the place of its tile
  pub carry_number : (t : TileAt) (i k : ℕ) → p ≡ Carry t i → position (same_tile t) tiles ≡ Some k → At list (wires + 8 * k + i) p
  carry_number t i k e f =
      let place = carry_place t i e in
      let same : place.0 ≡ k = same_Some place.0 k (sym place.1 ∙ f) in
      let at : At (points_by wires tiles) (wires + 8 * k + i) (Carry t i) = carry_at wires tiles k i t (subst (λ n. At tiles n t) same place.2) place.3 in
      subst (λ q. At list (wires + 8 * k + i) q) (sym e) (subst (λ (l : List Point). At l (wires + 8 * k + i) (Carry t i)) (sym is) at)

  pub carry_bound : (t : TileAt) (i k : ℕ) → p ≡ Carry t i → position (same_tile t) tiles ≡ Some k → wires + 8 * k + i < length list
  carry_bound t i k e f = slice_get_within list (wires + 8 * k + i) p (carry_number t i k e f)

-- the points of more numbers
pub point_more : (list : List Point) (numbers : List ℕ) (points : List Point) (i e : ℕ) (x : Point) → map (λ p. Some p) points ≡ map (slice_get list) (take i numbers)
    → i < length numbers → get_or numbers i e < length list → x ≡ get_or list (get_or numbers i e) x
    → map (λ p. Some p) (points ++ x ∷ []) ≡ map (slice_get list) (take (i + 1) numbers)
point_more list numbers points i e x so_far lt below at =
    map_push (λ (p : Point). Some p) points x
    ∙ ap (λ xs. xs ++ Some x ∷ []) so_far
    ∙ ap (λ o. map (slice_get list) (take i numbers) ++ o ∷ []) (sym (slice_get-get_or list (get_or numbers i e) x below ∙ ap (λ (y : Point). Some y) (sym at)))
    ∙ sym (map_push (slice_get list) (take i numbers) (get_or numbers i e))
    ∙ ap (map (slice_get list)) (sym (take_more numbers i e lt))

-- the numbers of more reads
pub numbers_more : (list : List Point) (reads : List (Option Point)) (i : ℕ) (d : Option Point) (old new : List ℕ) → i < length reads
    → map (slice_get list) old ≡ map (λ p. Some p) (present (take i reads))
    → map (slice_get list) new ≡ map (slice_get list) old ++ map (λ p. Some p) (present (get_or reads i d ∷ []))
    → map (slice_get list) new ≡ map (λ p. Some p) (present (take (i + 1) reads))
numbers_more list reads i d old new lt so_far more =
    more ∙ ap (λ xs. xs ++ map (λ (p : Point). Some p) (present (get_or reads i d ∷ []))) so_far
    ∙ sym (map-append (λ (p : Point). Some p) (present (take i reads)) (present (get_or reads i d ∷ [])))
    ∙ ap (map (λ (p : Point). Some p)) (sym (present_more reads i d lt))

-- ---- what the points read
pub has_wire : (parts : Parts) (list items : List Point) → AreAllPoints parts list → items ≡ list → (i : ℕ) (d : Point) → i < length items → HasWire parts (get_or items i d)
has_wire parts list items all e i d lt =
    let there = all.within (get_or items i d) (subst (λ (l : List Point). Has l (get_or items i d)) e (i, slice_get-get_or items i d lt)) in
    by there.0 (get_or items i d) (point_cases parts.wires (logic_tiles parts) there.0 (get_or items i d) there.1)
  where
    by : (n : ℕ) (q : Point) → StandsAs parts.wires (logic_tiles parts) n q → HasWire parts q
    by n (Wire w) stands = stands.1
    by n (Carry t c) stands = tt

present_has : {P : Type 0} (inputs : List (Option P)) (k : ℕ) (p : P) → At inputs k (Some p) → Has (present inputs) p
present_has [] k p at = cc at
present_has (None ∷ inputs) zero p at = absurd (cc at)
present_has (None ∷ inputs) (suc k) p at = present_has inputs k p at
present_has (Some q ∷ inputs) zero p at = (0, same_Some (Some q) (Some p) at)
present_has (Some q ∷ inputs) (suc k) p at = let rest = present_has inputs k p at in (suc rest.0, rest.1)

pub reads_numbered : (parts : Parts) (bits : Bits) (extras : List (ℕ × ℕ × ℕ)) → IsRead parts → (list items : List Point) → AreAllPoints parts list → items ≡ list
    → (i : ℕ) (d : Point) → i < length items → All (IsNumbered list) (reads_at parts bits extras (get_or items i d))
reads_numbered parts bits extras read list items all e i d lt =
    All-from_get_or (IsNumbered list) (reads_at parts bits extras (get_or items i d)) None
    (λ k below. by (get_or (reads_at parts bits extras (get_or items i d)) k None) k (slice_get-get_or (reads_at parts bits extras (get_or items i d)) k None below))
  where
    there : Has list (get_or items i d)
    there = subst (λ (l : List Point). Has l (get_or items i d)) e (i, slice_get-get_or items i d lt)

    by : (o : Option Point) (k : ℕ) → At (reads_at parts bits extras (get_or items i d)) k o → IsNumbered list o
    by None k at = tt
    by (Some q) k at = all.each q (read_there parts bits extras read (get_or items i d) q (all.within (get_or items i d) there) (present_has (reads_at parts bits extras (get_or items i d)) k q at))
