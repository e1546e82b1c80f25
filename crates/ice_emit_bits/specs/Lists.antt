-- Lists of rows and of bits of functions.
use Rattle.std.specs.Prelude.{List}
use Rattle.std.specs.List.{list_any}
use Rattle.ice_base.specs.declared.number.RowNo.{RowNo}
use Rattle.ice_chip.specs.Database.{Parts}
use Rattle.ice_chip.specs.FunctionNames.{function_name}
use Rattle.ice_bits.specs.Configuration.{Bits}
use Rattle.ice_emit_rows_laws.specs.Settings as wiring
use Rattle.ice_emit_bits.specs.declared.settings.Setting.{Setting}
use Rattle.ice_emit_bits.specs.Adds.{row_bits}

-- a setting, with its function's name
abbrev pub setting_view : Setting → wiring.Setting
setting_view setting = record { tile = setting.tile; name = function_name setting.function; number = setting.number }

-- the bits of these rows
abbrev pub all_rows : Parts → List RowNo → Bits
all_rows parts rows t b = list_any (λ (row : RowNo). row_bits parts row.0 t b) rows
