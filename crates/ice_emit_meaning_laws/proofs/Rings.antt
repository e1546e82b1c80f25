-- A loop in the bits of a placed and routed design is a ring of globals, each of which is fed by the next.
use Rattle.std.proofs.Common.{◌≡◌, ◌⊎◌, ℕ, zero, suc, ◌+◌, ◌-◌, ◌<◌, ◌≤◌, Bool, true, false, cond, Option, None, Some, List, [], ◌∷◌, length, map, slice_get, get_or, inl, inr, sym, ap, ◌∙◌, subst, arith}
use Rattle.std.specs.Option.{option_map_or}
use Rattle.std.proofs.lemmas.List.{length-map}
use Rattle.std.proofs.lemmas.Option.{same_Some, slice_get_within, slice_get-get_or}
use Rattle.ice_base.specs.declared.number.TileAt.{TileAt}
use Rattle.ice_base_values.specs.Order.{At, Has, IsCycle}
use Rattle.ice_base_values.specs.System.{System, present}
use Rattle.ice_base_values.proofs.Cycles.{value_in_cycle}
use Rattle.ice_base_values.proofs.Members.{map_At}
use Rattle.ice_chip.specs.Database.{Parts}
use Rattle.ice_decode.specs.declared.point.Point.{Point}
use Rattle.ice_decode.specs.declared.point.Point.TheVariants.{Wire, Carry}
use Rattle.ice_decode.specs.declared.role.Role.{Role}
use Rattle.ice_decode.specs.declared.driver.Driver.{Driver}
use Rattle.ice_decode.specs.Direct.{takes_pad}
use Rattle.ice_decode.specs.Faults.{HasNoLoop}
use Rattle.ice_decode.specs.Meaning.{chip_system}
use Rattle.ice_decode.specs.Reads.{depends_on, driven_reads, global_feed, role_reads, wire_point}
use Rattle.ice_decode.specs.Drivers.{role_of}
use Rattle.ice_decode.proofs.ReadPoints.{IsReadBy, is_read_by}
use Rattle.ice_emit_meaning_laws.specs.Feeds.{HasGlobalRing, IsRingless, feeders, global_number, global_numbers}
use Rattle.ice_emit_meaning_laws.proofs.Feeding.{found_feed}
use Rattle.ice_emit_meaning_laws.proofs.OtherWires.{IsBareGlobal, IsValued, carry_valued, nothing_kept, wire_cases}
use Rattle.ice_emit_meaning_laws.proofs.Premises.{Premises}

-- ---- cycles
-- some point of a cycle depends on each of its points
comes_from : {P : Type 0} (depends : P → List P) (cycle : List P) → IsCycle depends cycle → (p : P) → Has cycle p → (q : P) × Has cycle q × Has (depends q) p
comes_from depends cycle c p (zero, at) =
    let last = slice_get-get_or cycle (length cycle - 1) p (let some = c.some in omega (arith, some)) in
    (get_or cycle (length cycle - 1) p, (length cycle - 1, last), c.closed p (get_or cycle (length cycle - 1) p) at last)
comes_from depends cycle c p (suc i, at) =
    let inside : suc i < length cycle = slice_get_within cycle (suc i) p at in
    let here = slice_get-get_or cycle i p (omega (arith, inside)) in
    let e : suc i ≡ i + 1 = omega arith in
    (get_or cycle i p, (i, here), c.next i (get_or cycle i p) p here (subst (λ k. At cycle k p) e at))

-- a cycle again, by what its points stand for
mapped_cycle : {P : Type 0} (depends : P → List P) (feeds : ℕ → List ℕ) (f : P → ℕ) (cycle : List P) → IsCycle depends cycle → ((p q : P) → Has cycle p → Has cycle q → Has (depends p) q → Has (feeds (f p)) (f q))
    → IsCycle feeds (map f cycle)
mapped_cycle depends feeds f cycle c along = record {
  some = subst (λ n. 0 < n) (sym (length-map cycle f)) c.some;
  next = λ i a b at be.
      let p = map_At f cycle i a at in
      let q = map_At f cycle (i + 1) b be in
      subst (λ x. Has (feeds x) b) p.2 (subst (λ y. Has (feeds (f p.0)) y) q.2 (along p.0 q.0 (i, p.1) (i + 1, q.1) (c.next i p.0 q.0 p.1 q.1)));
  closed = λ first last at be.
      let p = map_At f cycle 0 first at in
      let q = map_At f cycle (length cycle - 1) last (subst (λ n. At (map f cycle) (n - 1) last) (length-map cycle f) be) in
      subst (λ x. Has (feeds x) first) q.2 (subst (λ y. Has (feeds (f q.0)) y) p.2 (along q.0 p.0 (length cycle - 1, q.1) (0, p.1) (c.closed p.0 q.0 p.1 q.1)));
}

-- ---- carries
-- the numbers of the cells whose carries are among these points, added up
abbrev sum_of : List Point → ℕ
sum_of [] = 0
sum_of (Wire w ∷ points) = sum_of points
sum_of (Carry t i ∷ points) = i + sum_of points

within_sum : (points : List Point) (t : TileAt) (i k : ℕ) → At points k (Carry t i) → i ≤ sum_of points
within_sum [] t i k at = absurd (cc at)
within_sum (Wire w ∷ points) t i zero at = absurd (let same : Wire w ≡ Carry t i = same_Some (Wire w) (Carry t i) at in cc same)
within_sum (Wire w ∷ points) t i (suc k) at = within_sum points t i k at
within_sum (Carry u j ∷ points) t i zero at =
    let same : Carry u j ≡ Carry t i = same_Some (Carry u j) (Carry t i) at in
    let number : j ≡ i = cc same in
    omega (arith, number)
within_sum (Carry u j ∷ points) t i (suc k) at = let rest = within_sum points t i k at in omega (arith, rest)

-- what is read by one wire alone
only_read : (o : Option Point) (q : Point) → Has (present (o ∷ [])) q → o ≡ Some q
only_read None q has = absurd (cc has.1)
only_read (Some p) q (zero, at) = at
only_read (Some p) q (suc i, at) = absurd (cc at)

-- the number of the global that a wire is
abbrev number_in : Parts → Point → ℕ
number_in parts (Wire w) = global_number (role_of parts w.0)
number_in parts (Carry t i) = 0

module _ (g : Premises) (cycle : List Point) (c : IsCycle (depends_on g.parts g.bits g.extras) cycle) where
  abbrev system : System Point Bool
  system = chip_system g.parts g.bits g.extras [] [] []

  abbrev IsLevelled : Point → Type 0
  IsLevelled p = IsValued g [] [] [] [] (λ t i c cell s. nothing_kept g t i) p

  unvalued : (p : Point) → Has cycle p → IsLevelled p → ⊥
  unvalued p has level = let some = level.1.1 in let none = value_in_cycle system cycle c level.1.0 p has in cc (some, none)

  -- where the carry of a cell is in the cycle, so is that of the cell behind it
  carry_behind : (t : TileAt) (i : ℕ) → Has cycle (Carry t i) → Has cycle (Carry t (suc i))
  carry_behind t i has =
      let before = comes_from (depends_on g.parts g.bits g.extras) cycle c (Carry t i) has in
      by before.0 before.1 (is_read_by g.parts g.bits g.extras g.chip_read before.0 (Carry t i) before.2)
    where
      by : (p : Point) → Has cycle p → IsReadBy g.parts p (Carry t i) → Has cycle (Carry t (suc i))
      by (Wire v) there is = absurd (unvalued (Carry t i) has (carry_valued g [] [] [] [] (λ t i c cell s. nothing_kept g t i) t i is.below))
      by (Carry u j) there is = subst (λ (v : TileAt). Has cycle (Carry v (suc i))) (sym is.0) (subst (λ (k : ℕ). Has cycle (Carry u k)) is.1 there)

  carries_behind : (t : TileAt) (i n : ℕ) → Has cycle (Carry t i) → Has cycle (Carry t (i + n))
  carries_behind t i zero has = let e : i ≡ i + 0 = omega arith in subst (λ (k : ℕ). Has cycle (Carry t k)) e has
  carries_behind t i (suc n) has = let e : suc (i + n) ≡ i + suc n = omega arith in subst (λ (k : ℕ). Has cycle (Carry t k)) e (carry_behind t (i + n) (carries_behind t i n has))

  no_carry : (t : TileAt) (i : ℕ) → Has cycle (Carry t i) → ⊥
  no_carry t i has =
      let far = carries_behind t i (suc (sum_of cycle)) has in
      let low : i + suc (sum_of cycle) ≤ sum_of cycle = within_sum cycle t (i + suc (sum_of cycle)) far.0 far.1 in
      omega (arith, low)

  -- ---- globals
  global_in : (w : ℕ) → Has cycle (wire_point w) → IsBareGlobal g w
  global_in w has = by (wire_cases g [] [] [] [] (λ t i c cell s. nothing_kept g t i) w)
    where
      by : IsLevelled (wire_point w) ⊎ IsBareGlobal g w → IsBareGlobal g w
      by (inl level) = absurd (unvalued (wire_point w) has level)
      by (inr is) = is

  -- what such a global depends on feeds it
  feeds : (w : ℕ) (q : Point) (is : IsBareGlobal g w) → Has (depends_on g.parts g.bits g.extras (wire_point w)) q → global_feed g.parts is.0 ≡ Some q
  feeds w q is has =
      by (takes_pad g.parts g.extras is.0)
      (subst (λ (r : Role). Has (present (role_reads g.parts g.bits g.extras r)) q) is.2
      (subst (λ (d : Driver). Has (present (driven_reads g.parts g.bits g.extras (role_of g.parts w) d)) q) (g.wired.bare w is.1) has))
    where
      by : (b : Bool) → Has (present (cond b [] (global_feed g.parts is.0 ∷ []))) q → global_feed g.parts is.0 ≡ Some q
      by true none = absurd (cc none.1)
      by false one = only_read (global_feed g.parts is.0) q one

  fed : (p q : Point) → Has cycle p → Has cycle q → Has (depends_on g.parts g.bits g.extras p) q → Has (feeders g.parts (number_in g.parts p)) (number_in g.parts q)
  fed (Carry t i) q here there has = absurd (no_carry t i here)
  fed (Wire w) (Carry t i) here there has = absurd (no_carry t i there)
  fed (Wire w) (Wire u) here there has =
      let is = global_in w.0 here in
      let next = global_in u.0 there in
      let found = found_feed g.parts is.0 u.0 (feeds w.0 (Wire u) is has) in
      let one : feeders g.parts is.0 ≡ next.0 ∷ [] = ap (λ (o : Option ℕ). option_map_or (λ v. global_numbers (role_of g.parts v)) o []) found ∙ ap global_numbers next.2 in
      let fed_by : Has (feeders g.parts is.0) next.0 = (0, ap (λ (xs : List ℕ). slice_get xs 0) one) in
      subst (λ (n : ℕ). Has (feeders g.parts n) (number_in g.parts (Wire u))) (sym (ap global_number is.2)) (subst (λ (m : ℕ). Has (feeders g.parts is.0) m) (sym (ap global_number next.2)) fed_by)

  pub ring_of : HasGlobalRing g.parts
  ring_of = (map (number_in g.parts) cycle, mapped_cycle (depends_on g.parts g.bits g.extras) (feeders g.parts) (number_in g.parts) cycle c fed)

pub ringless_loopless : (g : Premises) → IsRingless g.parts → HasNoLoop g.parts g.bits g.extras
ringless_loopless g ringless = record { none = λ cycle c. ringless.none (ring_of g cycle c) }
