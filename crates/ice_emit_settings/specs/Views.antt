-- Lists of settings, and of the rows of a chip by their numbers.
use Rattle.std.specs.Prelude.{List, map, filter_map}
use Rattle.ice_base.specs.declared.number.RowNo.{RowNo}
use Rattle.ice_chip.specs.Database.{Parts}
use Rattle.ice_decode.specs.declared.driver.Switch.{Switch}
use Rattle.ice_emit_rows_laws.specs.Settings as wiring
use Rattle.ice_emit_bits.specs.Lists.{setting_view}
use Rattle.ice_emit_bits.specs.declared.settings.Setting.{Setting}
use Rattle.ice_emit_defs.specs.Links.{tree_switch}

abbrev pub views : List Setting → List wiring.Setting
views made = map setting_view made

-- the rows of these numbers
abbrev pub switches : Parts → List RowNo → List Switch
switches parts rows = filter_map (tree_switch parts) rows
