-- The column buffers of rows by their numbers.
use Rattle.std.specs.Prelude.{ℕ, Bool, List, map, flat_map}
use Rattle.std.specs.List.{list_any, range_with_len}
use Rattle.ice_base.specs.declared.number.RowNo.{RowNo}
use Rattle.ice_chip.specs.Database.{Parts}
use Rattle.ice_chip.specs.Lookups.{names_of}
use Rattle.ice_chip.specs.Names.{is_global_name}
use Rattle.ice_emit_rows_laws.specs.Settings.{Setting}
use Rattle.ice_emit_defs.specs.Functions.{buffer_settings}
use Rattle.ice_emit_defs.specs.Links.{tree_switch, listed}

abbrev pub row_buffers : Parts → RowNo → List Setting
row_buffers parts row = flat_map (buffer_settings parts) (listed (tree_switch parts row))

-- the wire has the name of a global in some tile
abbrev pub has_global_name : Parts → ℕ → Bool
has_global_name parts w = list_any (λ n. is_global_name n.name) (names_of parts w)

-- a table of whether each wire has
abbrev pub global_wires : Parts → List Bool
global_wires parts = map (has_global_name parts) (range_with_len 0 parts.wires)
