-- The laws of the meaning of bits, each as one sentence.
use Rattle.std.specs.Prelude.{◌≡◌, ◌≢◌, ◌↔◌, ℕ, ◌+◌, ◌*◌, ◌<◌, All, Bool, false, Option, None, Some, List, length, map}
use Rattle.ice_base.specs.declared.number.RowNo.{RowNo}
use Rattle.ice_base_values.specs.System.{value, reading}
use Rattle.ice_base_values.specs.Order.{Has}
use Rattle.ice_chip.specs.Database.{Parts, SwitchGroup}
use Rattle.ice_chip.specs.IsRead.{IsRead}
use Rattle.ice_chip.specs.declared.rows.Pad.{Pad}
use Rattle.ice_bits.specs.Configuration.{Bits, Configuration, bits_of}
use Rattle.ice_bits.specs.Settings.{row_on}
use Rattle.ice_decode.specs.declared.point.Point.{Point}
use Rattle.ice_decode.specs.declared.driver.Driver.TheVariants.{Nothing, Several}
use Rattle.ice_decode.specs.declared.fault.DecodeFault.{DecodeFault}
use Rattle.ice_decode.specs.declared.fault.DecodeFault.TheVariants.{NoMemory}
use Rattle.ice_decode.specs.Cells.{logic_tiles}
use Rattle.ice_decode.specs.Drivers.{driver}
use Rattle.ice_decode.specs.DrivingRows.{row_of}
use Rattle.ice_decode.specs.Reads.{count_points, reads_at}
use Rattle.ice_decode.specs.Points.{points}
use Rattle.ice_decode.specs.Meaning.{makes_at, chip_system, point_level}
use Rattle.ice_decode.specs.Loops.{IsOrderOf}
use Rattle.ice_decode.specs.Refusals.{CircuitData, IsCircuitOf, IsFaultless, IsFaultOf}

-- there are as many points as wires, and eight for each logic tile
abbrev pub PointsAreCounted : Type 0
PointsAreCounted = (parts : Parts) → count_points parts ≡ parts.wires + 8 * length (logic_tiles parts)

-- with an order of evaluation each point has a value at each moment
abbrev pub PointsHaveValues : Type 0
PointsHaveValues = (parts : Parts) (bits : Bits) (extras : List (ℕ × ℕ × ℕ)) (order : List Point) → IsOrderOf parts bits extras order
    → (bonded : List Pad) (levels kept : List Bool) (p : Point) → Has (points parts) p
    → value (chip_system parts bits extras bonded levels kept) (count_points parts + 1) p ≡ Some (point_level parts bits extras bonded levels kept p)

-- then levels of which each is what the point makes of those that it reads are the values
abbrev pub PointLevelsAreUnique : Type 0
PointLevelsAreUnique = (parts : Parts) (bits : Bits) (extras : List (ℕ × ℕ × ℕ)) (order : List Point) → IsOrderOf parts bits extras order
    → (bonded : List Pad) (levels kept : List Bool) (v : Point → Bool)
    → ((p : Point) → Has (points parts) p → v p ≡ makes_at parts bits extras bonded levels kept p (map (reading false v) (reads_at parts bits extras p)))
    → (p : Point) → Has (points parts) p → point_level parts bits extras bonded levels kept p ≡ v p

-- what a chip shows is defined: where bits have no fault each point has a value at each moment, so no default stands in for one
abbrev pub FaultlessPointsHaveValues : Type 0
FaultlessPointsHaveValues = (parts : Parts) (bits : Bits) (extras : List (ℕ × ℕ × ℕ)) → IsRead parts → IsFaultless parts bits extras
    → (bonded : List Pad) (levels kept : List Bool) (p : Point) → Has (points parts) p
    → value (chip_system parts bits extras bonded levels kept) (count_points parts + 1) p ≡ Some (point_level parts bits extras bonded levels kept p)

-- where bits have no fault no wire is contended
abbrev pub FaultlessWiresAreUncontended : Type 0
FaultlessWiresAreUncontended = (parts : Parts) (bits : Bits) (extras : List (ℕ × ℕ × ℕ)) → IsFaultless parts bits extras
    → (w : ℕ) → w < parts.wires → (first second : RowNo) → driver parts bits w ≡ Several first second → ⊥

-- no row into the wire is on: none of a group that leads into it
abbrev pub HasNoRowOn : Parts → Bits → ℕ → Type 0
HasNoRowOn parts bits w = All (λ (g : SwitchGroup). g.wire ≡ w → row_on bits g ≡ None) parts.groups

-- the driver of a wire is nothing exactly where no row into the wire is on
abbrev pub UndrivenWiresHaveNoRowOn : Type 0
UndrivenWiresHaveNoRowOn = (parts : Parts) (bits : Bits) (w : ℕ) → (driver parts bits w ≡ Nothing) ↔ HasNoRowOn parts bits w

-- what a circuit tells of a wire: the row that drives it, and None exactly where no row into it is on
pub record IsDriverOf (parts : Parts) (bits : Bits) (w : ℕ) (row : Option RowNo) : Type 0 where
  pub driving : row ≡ row_of (driver parts bits w)
  pub undriven : (row ≡ None) ↔ HasNoRowOn parts bits w

-- bits with a fault have no circuit, so a decoding that answers the fault has refused no bits with a meaning
abbrev pub FaultsHaveNoCircuit : Type 0
FaultsHaveNoCircuit = (parts : Parts) (k : Configuration) (fault : DecodeFault) → fault ≢ NoMemory → IsFaultOf parts (bits_of k) k.extras fault
    → (circuit : CircuitData) → IsCircuitOf parts k circuit → ⊥
