-- Outputs of memories that are no block RAMs in use.
use Rattle.std.specs.Prelude.{ℕ, ◌&&◌, not, Bool}
use Rattle.std.specs.List.{list_any}
use Rattle.ice_chip.specs.Database.{Parts}
use Rattle.ice_chip.specs.Lookups.{names_of}
use Rattle.ice_chip.specs.declared.placed.PlacedName.{PlacedName}
use Rattle.ice_bits.specs.Configuration.{Bits}
use Rattle.ice_decode.specs.Faults.{is_memory_output}
use Rattle.ice_decode.specs.Rams.{is_given}

-- a name of such an output
abbrev pub is_foreign_name : Parts → Bits → PlacedName → Bool
is_foreign_name parts bits n = is_memory_output n.name && not (is_given parts bits n)

abbrev pub is_foreign_wire : Parts → Bits → ℕ → Bool
is_foreign_wire parts bits w = list_any (is_foreign_name parts bits) (names_of parts w)
