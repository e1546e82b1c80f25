-- The settings of ports, each beside its pad.
use Rattle.std.specs.Prelude.{ℕ, Bool, Option, None, Some, List, slice_get}
use Rattle.ice_chip.specs.Database.{Parts}
use Rattle.ice_chip.specs.Names.{pin_type_function}
use Rattle.ice_chip.specs.declared.rows.Pad.{Pad}
use Rattle.ice_net.specs.Meaning.{table_bit}
use Rattle.ice_cells.specs.declared.design.DesignPad.{DesignPad}
use Rattle.ice_emit_rows_laws.specs.Settings.{Setting}
use Rattle.ice_emit_defs.specs.Functions.{setting_if, port_settings}

abbrev pub digit_settings : Pad → ℕ → ℕ → List Setting
digit_settings pad pin_type k = setting_if (table_bit pin_type k) pad.tile (pin_type_function pad.pio k) 0

abbrev pub both_of : Option Pad → Option Bool → Option (Pad × Bool)
both_of None pullup = None
both_of (Some pad) None = None
both_of (Some pad) (Some pullup) = Some (pad, pullup)

-- the pad of that number, and whether it is pulled up
abbrev pub place_in : List Pad → List Bool → ℕ → Option (Pad × Bool)
place_in pads pullups k = both_of (slice_get pads k) (slice_get pullups k)

-- the settings of a port at its pad
abbrev pub port_gives : Parts → DesignPad → Pad × Bool → List Setting
port_gives parts port place = port_settings parts place.0 place.1 port
