-- Loops of points, and orders in which points without a loop are evaluated.
use Rattle.std.specs.Prelude.{◌≡◌, ℕ, ◌≤◌, List, [], ◌∷◌, length}
use Rattle.ice_chip.specs.Database.{Parts}
use Rattle.ice_bits.specs.Configuration.{Bits}
use Rattle.ice_base_values.specs.Order.{Has, IsCycle, StandOnce, StandsAfter}
use Rattle.ice_decode.specs.declared.point.Point.{Point}
use Rattle.ice_decode.specs.declared.point.Point.TheVariants.{Wire, Carry}
use Rattle.ice_decode.specs.Reads.{depends_on}
use Rattle.ice_decode.specs.Points.{points}

-- the wires among these points, in their order
abbrev pub wires_among : List Point → List ℕ
wires_among [] = []
wires_among (Wire w ∷ others) = w.0 ∷ wires_among others
wires_among (Carry t i ∷ others) = wires_among others

-- the wires of a closed list of points, each of which depends on the next; none stands twice
pub record IsLoop (parts : Parts) (bits : Bits) (extras : List (ℕ × ℕ × ℕ)) (wires : List ℕ) : Type 0 where
  pub cycle : List Point
  pub closes : IsCycle (depends_on parts bits extras) cycle
  pub once : StandOnce cycle
  pub are_wires : wires ≡ wires_among cycle

-- An order of evaluation: each wire of the chip and the carry of each logic cell once, after all that it depends on. So it is no
-- longer than the list of the points.
pub record IsOrderOf (parts : Parts) (bits : Bits) (extras : List (ℕ × ℕ × ℕ)) (order : List Point) : Type 0 where
  pub few : length order ≤ length (points parts)
  pub within : (p : Point) → Has order p → Has (points parts) p
  pub each : (p : Point) → Has (points parts) p → Has order p
  pub once : StandOnce order
  pub after : StandsAfter (depends_on parts bits extras) order
