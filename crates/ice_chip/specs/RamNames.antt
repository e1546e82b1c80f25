-- The names of the wires of block RAMs, in which tiles they stand, and their pins.
use Rattle.std.specs.Prelude.{ℕ, ◌+◌, Bool, false, not}
pub use Rattle.ice_chip_names.specs.RamNames.{ram_names, ram_name, place_among, ram_number, is_read_out, is_lower, is_clock_enable}
use Rattle.ice_base.specs.declared.number.TileAt.{TileAt}
use Rattle.ice_chip.specs.declared.rows.Pad.{Pad}
use Rattle.ice_chip.specs.declared.rows.TileKind.{TileKind}
use Rattle.ice_chip.specs.declared.rows.TileKind.TheVariants.{Io, Logic, RamBottom, RamTop}

-- a wire of this number of a block RAM stands in such a tile, of which there are a lower and an upper one
abbrev pub has_ram_wire : TileKind → ℕ → Bool
has_ram_wire Io n = false
has_ram_wire Logic n = false
has_ram_wire RamBottom n = is_lower n
has_ram_wire RamTop n = not (is_lower n)

-- a pin of a block RAM, as a pad of this tile: pads 0 and 1 are those of IO tiles, and the pins follow
abbrev pub pin_at : TileAt → ℕ → Pad
pin_at t n = record { tile = t; pio = n + 2 }
