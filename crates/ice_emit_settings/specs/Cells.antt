-- The settings of an entry of a table.
use Rattle.std.specs.Prelude.{ℕ, List, slice_index_or}
use Rattle.ice_base.specs.declared.number.TileAt.{TileAt}
use Rattle.ice_lut.specs.Tables.{table_places}
use Rattle.ice_net.specs.Meaning.{table_bit}
use Rattle.ice_emit_rows_laws.specs.Settings.{Setting}
use Rattle.ice_emit_defs.specs.Functions.{setting_if}

abbrev pub entry_settings : TileAt → List ℕ → ℕ → ℕ → List Setting
entry_settings t name table j = setting_if (table_bit table j) t name (slice_index_or table_places j 0)
