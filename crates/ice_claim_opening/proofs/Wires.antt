-- Lists of wires, and their numbers.
use Rattle.std.proofs.Common.{◌≡◌, ℕ, zero, suc, ◌≤◌, ◌<◌, List, [], ◌∷◌, Some, length, get_or, slice_get, slice_index, slice_index_or, refl, ap, arith, inl, inr, ◌∙◌}
use Rattle.std.proofs.lemmas.Bool.{cases_eq}
use Rattle.std.proofs.lemmas.Option.{same_Some}
use Rattle.std.specs.List.{AllByRecursion}
use Rattle.ice_base.specs.declared.number.WireNo.{WireNo}
use Rattle.ice_base_values.specs.Order.{Has}
use Rattle.ice_core.specs.Routes.{numbers, times}
use Rattle.ice_core.proofs.Sums.{at_other, times_cons}
use Rattle.ice_path.specs.Room.{AreWires}
use Rattle.ice_negotiate_defs.proofs.Wires.{numbered, same_wire, one_at}

pub numbers_within : (n : ℕ) (wires : List WireNo) → AreWires n wires → AllByRecursion (λ w. w < n) (numbers wires)
numbers_within n [] within = tt
numbers_within n (u ∷ wires) within = (within zero u refl, numbers_within n wires (λ k v at. within (suc k) v at))

-- a wire that stands in the list does so by number
pub has_times : (wires : List WireNo) (wire : WireNo) → Has wires wire → 1 ≤ times wire.0 (numbers wires)
has_times wires wire has = counted wires has.0 has.1
  where
    counted : (us : List WireNo) (k : ℕ) → slice_get us k ≡ Some wire → 1 ≤ times wire.0 (numbers us)
    counted [] k at = absurd (cc)
    counted (u ∷ us) zero at = (let same : u ≡ wire = same_Some u wire at in omega (arith, times_cons wire.0 u.0 (numbers us), one_at u.0 wire.0 (ap (λ (x : WireNo). x.0) same)))
    counted (u ∷ us) (suc k) at = omega (arith, times_cons wire.0 u.0 (numbers us), counted us k at)

pub times_has : (wires : List WireNo) (wire : WireNo) → 1 ≤ times wire.0 (numbers wires) → Has wires wire
times_has [] wire some_of = absurd (omega arith)
times_has (u ∷ wires) wire some_of = elim (cases_eq u.0 wire.0) [
  | inl same ↦ (zero, ap Some (same_wire u wire same))
  | inr ne ↦ (let t = times_has wires wire (omega (arith, some_of, times_cons wire.0 u.0 (numbers wires), at_other u.0 wire.0 ne)) in (suc t.0, t.1))
]

-- the number of the wire at a place
pub number_at : (wires : List WireNo) (i : ℕ) (wire : WireNo) → i < length wires → wire ≡ get_or wires i wire → wire.0 ≡ slice_index (numbers wires) i
number_at wires i wire lt is = ap (λ (u : WireNo). u.0) is ∙ by_place wires i lt
  where
    by_place : (us : List WireNo) (k : ℕ) → k < length us → (get_or us k wire).0 ≡ slice_index (numbers us) k
    by_place [] k low = absurd (omega arith)
    by_place (u ∷ us) zero low = refl
    by_place (u ∷ us) (suc k) low = by_place us k (omega arith)

-- the number of a wire by its place
pub number_by_place : (wires : List WireNo) (k : ℕ) → k < length wires → (slice_index_or wires k (numbered 0)).0 ≡ slice_index (numbers wires) k
number_by_place [] k lt = absurd (omega arith)
number_by_place (u ∷ wires) zero lt = refl
number_by_place (u ∷ wires) (suc k) lt = number_by_place wires k (omega (arith, lt))
