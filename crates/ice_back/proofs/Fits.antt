-- The names, the ports and the cells of the netlist of a configured chip have room in it.
use Rattle.std.proofs.Common.{◌≡◌, ℕ, ◌+◌, ◌*◌, ◌≤◌, List, [], length, get_or, sym, subst, arith}
use Rattle.std.proofs.lemmas.Option.{slice_get-get_or}
use Rattle.ice_base.specs.declared.number.TileAt.{TileAt}
use Rattle.ice_base_values.proofs.Members.{Has_all}
use Rattle.ice_chip.specs.Database.{Parts}
use Rattle.ice_chip.specs.Within.{IsPackage, different_pads}
use Rattle.ice_bits.specs.Configuration.{bits_of}
use Rattle.ice_net.specs.NetlistData.{empty_netlist}
use Rattle.ice_net_additions.specs.Adding.{HasRoomForNames, HasRoomForCells}
use Rattle.ice_decode.specs.Cells.{cells, logic_tiles}
use Rattle.ice_decode.proofs.PointPlaces.{cell_cases}
use Rattle.ice_back_laws.specs.Back.{back_netlist}
use Rattle.ice_back_laws.specs.Numbers.{back_names}
use Rattle.ice_back_laws.proofs.Names.{names_distinct}
use Rattle.ice_back_laws.proofs.Ranks.{place_found}
use Rattle.ice_back_laws.proofs.Sound.{few_names, few_cells, cells_formed}
use Rattle.ice_back_laws.proofs.Standing.{names_long}
use Rattle.ice_back_points.specs.ConfiguredChips.{ConfiguredData, IsConfigured}
use Rattle.ice_back.specs.Adding.{StandAt}

-- each logic cell stands in a logic tile of the chip
pub cells_stand : (parts : Parts) (all : List (TileAt × ℕ)) → all ≡ cells parts → StandAt parts all
cells_stand parts all e =
    subst (StandAt parts) (sym e)
    (λ k d lt. let at = slice_get-get_or (cells parts) k d lt in
    let spot = cell_cases (logic_tiles parts) k (get_or (cells parts) k d) at in
    let place = place_found (get_or (cells parts) k d).0 (logic_tiles parts) (spot.place, spot.stands) in
    (place.0, place.1, spot.below))

-- ---- the whole netlist
pub names_fit : (d : ConfiguredData) → IsConfigured d → HasRoomForNames empty_netlist (back_names d.parts d.bonded)
names_fit d is = record {
  few = (let few = few_names d.parts (bits_of d.configuration) d.configuration.extras is.chip.read is.names is.faultless d.bonded is.listed in omega (arith, few));
  once = names_distinct d.parts is.chip.read d.bonded is.listed;
}

pub cells_fit : (d : ConfiguredData) → IsConfigured d
    → HasRoomForCells (record (back_netlist d.parts (bits_of d.configuration) d.configuration.extras d.bonded) { cells = [] }) (back_netlist d.parts (bits_of d.configuration) d.configuration.extras d.bonded).cells
cells_fit d is = record {
  few = (let few = few_cells d.parts (bits_of d.configuration) d.configuration.extras is.chip.read is.names is.faultless d.bonded is.listed in omega (arith, few));
  formed = cells_formed d.parts (bits_of d.configuration) d.configuration.extras is.chip.read is.names is.faultless d.bonded is.listed;
}

pub ports_fit : (d : ConfiguredData) → IsConfigured d → 2 + 5 * length d.bonded.pads ≤ length (back_names d.parts d.bonded)
ports_fit d is = let long = names_long d.parts (bits_of d.configuration) d.configuration.extras d.bonded in omega (arith, long)

pub pads_different : (d : ConfiguredData) → IsConfigured d → d.bonded.pads ≡ different_pads d.bonded.pins
pads_different d is = (Has_all (IsPackage d.parts.width d.parts.height) d.parts.packages d.bonded is.chip.read.package_forms is.listed).pads
