-- What is known of the pins of ports.
use Rattle.std.specs.Prelude.{◌≡◌, ℕ, IsSome, Some, Ok, List, find, slice_get, take}
use Rattle.ice_net.specs.NetlistData.{NetlistData}
use Rattle.ice_pcf.specs.declared.constraint.Constraint.{Constraint}
use Rattle.ice_chip.specs.Database.{Parts, PackageRows, same_pad}
use Rattle.ice_chip.specs.IsRead.{IsChip}
use Rattle.ice_chip.specs.Lookups.{package_of}
use Rattle.ice_chip.specs.declared.rows.Pad.{Pad}
use Rattle.ice_cells.specs.declared.design.Design.{Design}
use Rattle.ice_pads.specs.Assign.{PadsData, assign_of}
use Rattle.ice_pads.specs.declared.closing.Closing.{Closing}

-- a pin of the package leads to the pad
abbrev pub HasPin : PackageRows → Pad → Type 0
HasPin bonded pad = IsSome (find (λ (pin : List ℕ × Pad). same_pad pad pin.1) bonded.pins)

-- each pad that is assigned in a package to a port that is seen from outside has a pin of it
abbrev pub PinsAreFound : Type 0
PinsAreFound =
    (parts : Parts) (name : List ℕ) (constraints : List Constraint) (n : NetlistData) (closing : Closing) (d : Design) (bonded : PackageRows) (pads : PadsData)
    → IsChip parts → package_of parts name ≡ Some bonded → assign_of parts name constraints n closing d ≡ Ok pads
    → (k : ℕ) (pad : Pad) → slice_get (take closing.first pads.ports) k ≡ Some pad → HasPin bonded pad
