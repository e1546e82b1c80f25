-- The bits of a placed design set what it says, and none of a group of switches.
use Rattle.std.proofs.Common.{◌≡◌, Bool, List, subst}
use Rattle.std.specs.Map.{lookup}
use Rattle.ice_chip.specs.Database.{Parts, PackageRows, same_pad}
use Rattle.ice_chip.specs.FunctionNames.{FunctionNamesAreRead}
use Rattle.ice_chip.specs.Indices.{enables_of}
use Rattle.ice_chip.specs.IsRead.{IsChip}
use Rattle.ice_chip.specs.Lookups.{ieren_of}
use Rattle.ice_chip.specs.declared.rows.Pad.{Pad}
use Rattle.ice_chip_laws.specs.Laws.{IsLawful}
use Rattle.ice_cluster.specs.Slots.{CellsStandInOneSlot}
use Rattle.ice_decode.specs.declared.driver.Switch.{Switch}
use Rattle.ice_emit_rows_laws.specs.Wanted.{AreWanted, AreNoGroups, set_bits}
use Rattle.ice_place_defs.specs.Plan.{Plan}
use Rattle.ice_ram.specs.Ram.{Kept}
use Rattle.ice_ram.specs.declared.setup.Setup.{Setup}
use Rattle.ice_emit_defs.specs.Arrivals.{Held}
use Rattle.ice_emit_defs.specs.Rams.{AreFormed}
use Rattle.ice_emit_defs.specs.Routed.{IsPlaced}
use Rattle.ice_emit_defs.specs.Set.{AreSet}
use Rattle.ice_emit_set_laws.specs.SetLaws.{design_bits}
use Rattle.ice_emit_set_laws.proofs.CellsSet.{cell_set, free_slot, tile_set}
use Rattle.ice_emit_set_laws.proofs.PadsSet.{type_set, type_none, enabled, disabled}
use Rattle.ice_emit_set_laws.proofs.RamsSet.{rams_set}
use Rattle.ice_emit_set_laws.proofs.RowsSet.{passing, own}
use Rattle.ice_emit_set_laws.proofs.SetAt.{none_grouped}
use Rattle.ice_emit_set_laws.proofs.Told.{Known, Case, all, all_own}

-- what is known of a chip, by its list of enables
pub known_by : (parts : Parts) (entries : List (Pad × Pad)) → entries ≡ enables_of parts → ((pad : Pad) → lookup (same_pad pad) entries ≡ ieren_of parts pad) → IsChip parts → IsLawful parts
    → FunctionNamesAreRead → CellsStandInOneSlot → Known parts
known_by parts entries are found chip lawful names slots = record {
  chip = chip;
  lawful = lawful;
  names = names;
  enables = subst (λ (xs : List (Pad × Pad)). (pad : Pad) → lookup (same_pad pad) xs ≡ ieren_of parts pad) are found;
  slots = slots;
}

module _ (parts : Parts) (known : Known parts) (rows : PackageRows) (plan : Plan) (pullups : List Bool) (rams : List (Setup × Kept)) (placed : IsPlaced parts rows plan pullups) (held : Held) (wanted : List Switch) where
  abbrev z : Case
  z = record { parts = parts; known = known; rows = rows; plan = plan; pullups = pullups; rams = rams; placed = placed; held = held; wanted = wanted }

  pub no_groups_set : AreNoGroups parts (design_bits parts plan pullups rams held wanted)
  no_groups_set = none_grouped parts known.chip known.lawful (all z) (all_own z)

  pub design_set : AreFormed rams → AreWanted parts wanted → AreSet parts plan rams wanted held (set_bits parts wanted (design_bits parts plan pullups rams held wanted))
  design_set formed are = record {
    cells = cell_set z are;
    free = free_slot z are;
    tiles = tile_set z are;
    passing = passing z are;
    types = type_set z are;
    untyped = type_none z are;
    enabled = enabled z are;
    disabled = disabled z are;
    own = own z are;
    rams_set = rams_set z are formed;
  }
