-- What bits mean where no port stands at a pin of a block RAM, and where the netlist has no block RAM.
use Rattle.std.specs.Prelude.{◌≡◌, ℕ, Bool, List, [], map}
use Rattle.ice_chip.specs.Database.{Parts, PackageRows}
use Rattle.ice_chip.specs.declared.rows.Pad.{Pad}
use Rattle.ice_bits.specs.Configuration.{Bits}
use Rattle.ice_decode.specs.Meaning.{bits_show}
use Rattle.ice_decode.specs.Memories.{IsPlain}
use Rattle.ice_decode.specs.declared.driver.Switch.{Switch}
use Rattle.ice_ram.specs.Ram.{Kept}
use Rattle.ice_ram.specs.declared.setup.Setup.{Setup}
use Rattle.ice_cells.specs.Meaning as design
use Rattle.ice_place_defs.specs.Plan.{Plan}
use Rattle.ice_emit_defs.specs.Realised.{Realises, port_levels}
use Rattle.ice_emit_defs.specs.Routed.{IsPlaced}

-- all that the chip drives ports' pads with is what the design shows
abbrev pub ShowsAll : Parts → Plan → Bits → List (ℕ × ℕ × ℕ) → Type 0
ShowsAll parts plan bits extras =
    (bonded : List Pad) (steps : List (List Bool)) → bits_show parts bits extras bonded plan.ports steps ≡ design.shows plan.design (map (port_levels bonded plan.ports) steps)

-- so it is where no port stands at a pin of a block RAM
abbrev pub ShowsWithoutRams : Parts → Type 0
ShowsWithoutRams parts =
    (rows : PackageRows) (plan : Plan) (pullups : List Bool) (rams : List (Setup × Kept)) (wanted : List Switch) (bits : Bits) (extras : List (ℕ × ℕ × ℕ))
    → (placed : IsPlaced parts rows plan pullups) → placed.rams ≡ 0 → Realises parts plan rams wanted bits extras → ShowsAll parts plan bits extras

-- no row that is on reads an output of a memory where the netlist has no block RAM
abbrev pub IsPlainWithoutRams : Parts → Type 0
IsPlainWithoutRams parts = (plan : Plan) (wanted : List Switch) (bits : Bits) (extras : List (ℕ × ℕ × ℕ)) → Realises parts plan [] wanted bits extras → IsPlain parts bits extras
