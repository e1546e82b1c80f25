-- Lists of wires, and their numbers.
use Rattle.std.proofs.Common.{◌≡◌, ℕ, zero, suc, ◌<◌, List, [], ◌∷◌, length, get_or, refl, subst, arith}
use Rattle.std.specs.List.{AllByRecursion}
use Rattle.ice_base.specs.declared.number.WireNo.{WireNo}
use Rattle.ice_core.specs.Routes.{numbers}
use Rattle.ice_path.specs.Room.{AreWires}

pub number_at : (wires : List WireNo) (i : ℕ) (d : WireNo) → i < length wires → get_or (numbers wires) i 0 ≡ (get_or wires i d).0
number_at [] i d lt = absurd (omega arith)
number_at (u ∷ wires) zero d lt = refl
number_at (u ∷ wires) (suc i) d lt = number_at wires i d (omega arith)

pub wires_within : (n : ℕ) (wires : List WireNo) → AllByRecursion (λ w. w < n) (numbers wires) → AreWires n wires
wires_within n [] each k v at = absurd (cc)
wires_within n (u ∷ wires) each zero v at = (let same : u ≡ v = (cc) in subst (λ (x : WireNo). x.0 < n) same each.0)
wires_within n (u ∷ wires) each (suc k) v at = wires_within n wires each.1 k v at
