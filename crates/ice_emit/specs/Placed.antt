-- Placed designs on the pads of some package, and on pins of block RAMs.
use Rattle.std.specs.Prelude.{ℕ, ◌≤◌, Bool, List}
use Rattle.ice_chip.specs.Database.{Parts, PackageRows}
use Rattle.ice_place_defs.specs.Plan.{Plan}
use Rattle.ice_emit_defs.specs.Routed.{IsPlaced}

-- the pins are those of so many block RAMs at most
abbrev pub IsPlacedOn : Parts → Plan → List Bool → ℕ → Type 0
IsPlacedOn parts plan pullups rams = (rows : PackageRows) × (placed : IsPlaced parts rows plan pullups) × (placed.rams ≤ rams)
