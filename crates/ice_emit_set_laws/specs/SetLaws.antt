-- The laws of what the bits of a placed design set.
use Rattle.std.specs.Prelude.{Bool, List}
use Rattle.ice_chip.specs.Database.{Parts, PackageRows}
use Rattle.ice_bits.specs.Configuration.{Bits}
use Rattle.ice_decode.specs.declared.driver.Switch.{Switch}
use Rattle.ice_emit_rows_laws.specs.Settings.{function_bits}
use Rattle.ice_emit_rows_laws.specs.Wanted.{AreWanted, AreNoGroups, set_bits}
use Rattle.ice_ram.specs.Ram.{Kept}
use Rattle.ice_ram.specs.declared.setup.Setup.{Setup}
use Rattle.ice_place_defs.specs.Plan.{Plan}
use Rattle.ice_emit_defs.specs.Arrivals.{Held}
use Rattle.ice_emit_defs.specs.Functions.{settings}
use Rattle.ice_emit_defs.specs.Rams.{AreFormed}
use Rattle.ice_emit_defs.specs.Routed.{IsPlaced}
use Rattle.ice_emit_defs.specs.Set.{AreSet}

-- the bits of the functions of a placed design, by what the trees hold and which rows are wanted
abbrev pub design_bits : Parts → Plan → List Bool → List (Setup × Kept) → Held → List Switch → Bits
design_bits parts plan pullups rams held wanted = function_bits parts (settings parts plan pullups rams held wanted)

-- none of them is a bit of a group
abbrev pub SetsNoGroups : Parts → Type 0
SetsNoGroups parts =
    (rows : PackageRows) (plan : Plan) (pullups : List Bool) (rams : List (Setup × Kept)) (held : Held) (wanted : List Switch) → IsPlaced parts rows plan pullups → AreNoGroups parts (design_bits parts plan pullups rams held wanted)

-- where they are set, and those of wanted rows, and no others, each slot, tile and pad is set as the design says
abbrev pub SetsDesigns : Parts → Type 0
SetsDesigns parts =
    (rows : PackageRows) (plan : Plan) (pullups : List Bool) (rams : List (Setup × Kept)) (held : Held) (wanted : List Switch) → IsPlaced parts rows plan pullups → AreFormed rams → AreWanted parts wanted
    → AreSet parts plan rams wanted held (set_bits parts wanted (design_bits parts plan pullups rams held wanted))
