-- Bits that were read, in a package, and the circuit that was decoded of them.
use Rattle.std.proofs.Common.{◌≡◌, ℕ, Bool, List, Some, sym, subst}
use Rattle.ice_chip.specs.Database.{Parts, PackageRows}
use Rattle.ice_chip.specs.Lookups.{package_of}
use Rattle.ice_bits.specs.Configuration.{Configuration, bits_of}
use Rattle.ice_decode.specs.Memories.{IsTaken}
use Rattle.ice_decode.specs.Refusals.{CircuitData, IsCircuitOf}
use Rattle.ice_flow_chip_frame.specs.Standing.{IsRead, IsConfigured}

-- the circuit has the bits, which have no fault
pub configured_by : (rams : Bool) (name : List ℕ) (t : List (List ℕ)) (parts : Parts) (k : Configuration) (bonded : PackageRows) (circuit : CircuitData) → IsRead t parts k → package_of parts name ≡ Some bonded → IsCircuitOf parts k circuit
    → IsTaken rams parts (bits_of k) k.extras → IsConfigured rams name t parts circuit.configuration bonded
configured_by rams name t parts k bonded circuit read there is taken =
    subst (λ (c : Configuration). IsConfigured rams name t parts c bonded) (sym is.same) (record { is_packed = record { is_read = read; is_package = there }; faultless = taken })
