-- Pads by their numbers: pads 0 and 1 are those of an IO tile, and the pins of a block RAM follow. A pad gives its level to a wire, and a wire
-- drives it.
use Rattle.std.specs.Prelude.{ℕ, ◌-◌, ◌&&◌, Bool, false, not, Option, None, Some, List, is_some, nat_lt, if◌then◌else◌}
use Rattle.std.specs.Option.{option_map_or}
use Rattle.ice_base.specs.declared.number.TileAt.{TileAt}
use Rattle.ice_chip.specs.Database.{Parts}
use Rattle.ice_chip.specs.Lookups.{wire_named, kind_at, is_io_kind}
use Rattle.ice_chip.specs.Names.{pad_input_name, pad_output_name}
use Rattle.ice_chip.specs.RamNames.{ram_name, is_read_out, has_ram_wire}
use Rattle.ice_chip.specs.declared.rows.Pad.{Pad}
use Rattle.ice_chip.specs.declared.rows.TileKind.{TileKind}
use Rattle.ice_chip_names.specs.declared.wire_names.TileWire.{TileWire}
use Rattle.ice_chip_names.specs.declared.wire_names.TileWire.TheVariants.{PadInput, PadOutput, Ram}

-- ---- their wires
-- the wire that a pad gives its level to: the input of a pad of an IO tile, or what a block RAM reads out
abbrev pub given_wire : ℕ → TileWire
given_wire pio = if nat_lt pio 2 then PadInput pio else Ram (pio - 2)

abbrev pub given_name : ℕ → List ℕ
given_name pio = if nat_lt pio 2 then pad_input_name pio else ram_name (pio - 2)

-- the wire that drives a pad: the output of a pad of an IO tile, or an input of a block RAM
abbrev pub driven_wire : ℕ → TileWire
driven_wire pio = if nat_lt pio 2 then PadOutput pio else Ram (pio - 2)

abbrev pub driven_name : ℕ → List ℕ
driven_name pio = if nat_lt pio 2 then pad_output_name pio else ram_name (pio - 2)

-- ---- which pads have them
abbrev pub is_io_at : Option TileKind → Bool
is_io_at None = false
is_io_at (Some kind) = is_io_kind kind

-- an IO tile stands there
abbrev pub is_io_tile : Parts → TileAt → Bool
is_io_tile parts t = is_io_at (kind_at parts t)

-- an IO tile has a wire of the name
abbrev pub has_io_wire : Parts → TileAt → List ℕ → Bool
has_io_wire parts t name = is_io_tile parts t && is_some (wire_named parts t name)

abbrev pub has_ram_wire_in : ℕ → Option TileKind → Bool
has_ram_wire_in n kind = option_map_or (λ (k : TileKind). has_ram_wire k n) kind false

-- a tile of a block RAM has the wire of this number
abbrev pub has_ram_pin : Parts → TileAt → ℕ → Bool
has_ram_pin parts t n = has_ram_wire_in n (kind_at parts t) && is_some (wire_named parts t (ram_name n))

-- the pad can give its level
abbrev pub gives : Parts → Pad → Bool
gives parts pad =
    if nat_lt pad.pio 2 then has_io_wire parts pad.tile (pad_input_name pad.pio) else is_read_out (pad.pio - 2) && has_ram_pin parts pad.tile (pad.pio - 2)

-- the pad can be driven
abbrev pub is_driven : Parts → Pad → Bool
is_driven parts pad =
    if nat_lt pad.pio 2 then has_io_wire parts pad.tile (pad_output_name pad.pio)
    else not (is_read_out (pad.pio - 2)) && nat_lt (pad.pio - 2) 74 && has_ram_pin parts pad.tile (pad.pio - 2)
