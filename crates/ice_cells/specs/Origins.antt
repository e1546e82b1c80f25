-- Where the levels of signals come from: constants are found, and other names of a signal are looked through.
use Rattle.std.specs.Prelude.{ℕ, ◌+◌, ◌==◌, ◌&&◌, not, Bool, true, false, Option, None, Some, List, [], length, slice_get, slice_index_or, unwrap_or, if◌then◌else◌}
use Rattle.std.specs.Option.{option_map_or}
use Rattle.ice_base.specs.declared.number.SignalNo.{SignalNo}
use Rattle.ice_base_values.specs.System.{System, value, gapped}
use Rattle.ice_net.specs.declared.cell.Cell.{Cell}
use Rattle.ice_net.specs.declared.kind.CellKind.{CellKind}
use Rattle.ice_net.specs.declared.kind.CellKind.TheVariants.{Lut, Cover, Carry, Flop, PadCell, Global}
use Rattle.ice_net.specs.declared.driver.SignalDriver.{SignalDriver}
use Rattle.ice_net.specs.declared.driver.SignalDriver.TheVariants.{Nothing, Output}
use Rattle.ice_net.specs.declared.driver.SignalDriver.TheVariants as driver
use Rattle.ice_net.specs.NetlistData.{NetlistData}
use Rattle.ice_net.specs.Drivers.{numbers, driver_of}
use Rattle.ice_net.specs.Meaning.{table_bit}
use Rattle.ice_cells.specs.declared.origin.Origin.{Origin}
use Rattle.ice_cells.specs.declared.origin.Origin.TheVariants.{Fixed, Pad, Made}
use Rattle.ice_cells.specs.Tables.{table}

-- ---- covers
-- a cover that passes its one input
abbrev pub is_alias : CellKind → Bool
is_alias (Lut t) = false
is_alias (Cover t width) = (width == 1) && (t == 2)
is_alias Carry = false
is_alias (Flop falling enable reset) = false
is_alias (PadCell pin_type pullup) = false
is_alias Global = false

-- a cover without inputs
abbrev pub constant_of : CellKind → Option Bool
constant_of (Lut t) = None
constant_of (Cover t width) = if width == 0 then Some (table_bit t 0) else None
constant_of Carry = None
constant_of (Flop falling enable reset) = None
constant_of (PadCell pin_type pullup) = None
constant_of Global = None

-- look-up tables, and every other cover
abbrev pub is_table_kind : CellKind → Bool
is_table_kind (Lut t) = true
is_table_kind (Cover t width) = not (width == 0) && not (is_alias (Cover t width))
is_table_kind Carry = false
is_table_kind (Flop falling enable reset) = false
is_table_kind (PadCell pin_type pullup) = false
is_table_kind Global = false

-- ---- origins
-- what the origin of a signal is made of, by its driver: that of the input, where the driver is an alias
abbrev pub cell_aliases : Cell → List (Option ℕ)
cell_aliases cell = if is_alias cell.kind then numbers cell.ins else []

abbrev pub aliases : NetlistData → SignalDriver → List (Option ℕ)
aliases n Nothing = []
aliases n (driver.Pad k) = []
aliases n (Output i) = option_map_or cell_aliases (slice_get n.cells i) []

abbrev pub cell_origin : ℕ → List Origin → Cell → Origin
cell_origin i os cell = if is_alias cell.kind then slice_index_or os 0 (Fixed false) else option_map_or (λ b. Fixed b) (constant_of cell.kind) (Made i)

abbrev pub origin_made : NetlistData → SignalDriver → List Origin → Origin
origin_made n Nothing os = Fixed false
origin_made n (driver.Pad k) os = Pad k
origin_made n (Output i) os = option_map_or (cell_origin i os) (slice_get n.cells i) (Fixed false)

abbrev pub origin_system : NetlistData → System ℕ Origin
origin_system n = gapped (λ s. aliases n (driver_of n s)) (Fixed false) (λ s. origin_made n (driver_of n s))

-- the origin of a signal
abbrev pub origin : NetlistData → ℕ → Origin
origin n s = unwrap_or (value (origin_system n) (length n.names + 1) s) (Fixed false)

-- the origins of all signals
abbrev pub origins : NetlistData → List Origin
origins n = table (origin n) (length n.names)

-- ---- what an input reads
-- its origin, by the list of the origins of all signals; a missing input reads 0
abbrev pub input_origin : List Origin → Option SignalNo → Origin
input_origin os None = Fixed false
input_origin os (Some signal) = slice_index_or os signal.0 (Fixed false)

abbrev pub level_of : Origin → Option Bool
level_of (Fixed level) = Some level
level_of (Pad k) = None
level_of (Made j) = None

-- the level of an input that reads a constant; a missing input reads none
abbrev pub input_level : List Origin → Option SignalNo → Option Bool
input_level os None = None
input_level os (Some signal) = level_of (slice_index_or os signal.0 (Fixed false))
