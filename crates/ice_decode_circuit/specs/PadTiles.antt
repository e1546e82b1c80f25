-- Pads of a wrong type, tile by tile.
use Rattle.std.specs.Prelude.{Bool, false, Option, None, Some, List, [], ◌∷◌, find, slice_index_or, if◌then◌else◌}
use Rattle.ice_base.specs.declared.number.TileAt.{TileAt}
use Rattle.ice_base.specs.declared.number.WireNo.{WireNo}
use Rattle.ice_chip.specs.Database.{Parts}
use Rattle.ice_chip.specs.Lookups.{is_io_kind}
use Rattle.ice_chip.specs.declared.rows.Pad.{Pad}
use Rattle.ice_chip.specs.declared.tile.Tile.{Tile}
use Rattle.ice_bits.specs.Configuration.{Bits}
use Rattle.ice_decode.specs.Pads.{pads_in}
use Rattle.ice_decode.specs.Faults.{has_wrong_type}
use Rattle.ice_decode.specs.FirstFaults.{or_else}

-- the wire, where there is one, is read by the table
abbrev pub is_read_in : List Bool → Option WireNo → Bool
is_read_in sources None = false
is_read_in sources (Some w) = slice_index_or sources w.0 false

-- the first of the pads of an IO tile that has a wrong type
abbrev pub wrong_in : Parts → Bits → TileAt → Option Pad
wrong_in parts bits t = find (has_wrong_type parts bits) (pads_in t)

-- the first pad of a wrong type in these tiles
abbrev pub wrong_among : Parts → Bits → List Tile → Option Pad
wrong_among parts bits [] = None
wrong_among parts bits (tile ∷ tiles) = or_else (if is_io_kind tile.kind then wrong_in parts bits tile.at else None) (wrong_among parts bits tiles)
