-- Which wires a port needs at its pad, and which pads have them.
use Rattle.std.specs.Prelude.{Bool, ◌&&◌, ◌||◌, not}
use Rattle.ice_chip.specs.Database.{Parts}
use Rattle.ice_chip.specs.Names.{output_enable_name}
use Rattle.ice_chip.specs.declared.rows.Pad.{Pad}
use Rattle.ice_chip_sockets.specs.Sockets.{has_io_wire, gives, is_driven}
use Rattle.ice_pads.specs.declared.want.Want.{Want}

-- the pad has the wires that a port needs
abbrev pub suits : Parts → Want → Pad → Bool
suits parts want pad =
    (not want.input || gives parts pad) && (not want.output || is_driven parts pad) && (not want.enable || has_io_wire parts pad.tile (output_enable_name pad.pio))
