-- Where paths end, and by which points they get there.
use Rattle.std.specs.Prelude.{ℕ, ◌+◌, ◌/◌, ◌==◌, ◌||◌, Bool, List, [], ◌∷◌, ◌++◌, Option, None, map, if◌then◌else◌}
use Rattle.std.specs.List.{flat_map, range_with_len}
use Rattle.ice_base.specs.declared.number.TileAt.{TileAt}
use Rattle.ice_base_values.specs.System.{present}
use Rattle.ice_chip.specs.Database.{Parts}
use Rattle.ice_chip.specs.Lookups.{is_io_kind}
use Rattle.ice_chip.specs.declared.tile.Tile.{Tile}
use Rattle.ice_chip.specs.Names.{pad_output_name, output_enable_name}
use Rattle.ice_chip.specs.RamNames.{ram_name, is_read_out}
use Rattle.ice_chip.specs.WireNames.{clock_enable_name, set_reset_name}
use Rattle.ice_chip.specs.declared.rows.Pad.{Pad}
use Rattle.ice_chip_rams.specs.Sites.{ram_tile}
use Rattle.ice_chip_rams.specs.declared.ram_site.RamSite.{RamSite}
use Rattle.ice_bits.specs.Configuration.{Bits}
use Rattle.ice_decode.specs.declared.point.Point.{Point}
use Rattle.ice_decode.specs.Cells.{eight, logic_tiles, has_flop}
use Rattle.ice_decode.specs.Pads.{pads_in, pads, pin_type}
use Rattle.ice_decode.specs.Rams.{rams}
use Rattle.ice_decode.specs.Reads.{at_pin, cell_inputs}
use Rattle.ice_timing_delays.specs.declared.delays.Delays.{Delays}
use Rattle.ice_timing.specs.declared.end.End.{End}
use Rattle.ice_timing.specs.declared.end.End.TheVariants.{Flop, Pad as PadEnd, Ram}
use Rattle.ice_timing.specs.declared.end.Door.{Door}
use Rattle.ice_timing.specs.declared.end.Door.TheVariants.{Table, Control, Outside, Register, Port}
use Rattle.ice_timing.specs.declared.end.Entry.{Entry}

-- what the end adds to a path that comes in by this door
abbrev pub door_delay : Delays → Door → ℕ
door_delay d Table = d.lut + d.setup
door_delay d Control = d.setup
door_delay d Outside = d.pad_out
door_delay d Register = d.setup
door_delay d Port = d.setup

abbrev pub entry : End → Door → Point → Entry
entry end door last = record { end = end; door = door; last = last }

-- the entries of an end by those of these points that are there
abbrev pub entries_by : End → Door → List (Option Point) → List Entry
entries_by end door lasts = map (entry end door) (present lasts)

-- the clock enable of a tile, and its set and reset
abbrev pub controls : Parts → TileAt → List (Option Point)
controls parts t = at_pin parts t clock_enable_name ∷ at_pin parts t set_reset_name ∷ []

-- into a flip-flop: through the table in front of it, and by its controls
abbrev pub flop_entries : Parts → Bits → TileAt → ℕ → List Entry
flop_entries parts bits t i =
    if has_flop parts bits t i then entries_by (Flop t i) Table (cell_inputs parts t i) ++ entries_by (Flop t i) Control (controls parts t) else []

-- into the flip-flops of a tile
abbrev pub tile_entries : Parts → Bits → TileAt → List Entry
tile_entries parts bits t = flat_map (flop_entries parts bits t) eight

-- by which door a path gets into a pad of this output part: 0101 drives what a register takes
abbrev pub pad_door : ℕ → Door
pad_door part = if part == 5 then Register else Outside

-- the wires by which the chip drives a pad of this output part: 0101 and 0110 drive its output, 1010 drives it where enabled
abbrev pub pad_lasts : Parts → Pad → ℕ → List (Option Point)
pad_lasts parts pad part =
    if part == 5 then at_pin parts pad.tile (pad_output_name pad.pio) ∷ []
    else (if part == 6 then at_pin parts pad.tile (pad_output_name pad.pio) ∷ []
    else (if part == 10 then at_pin parts pad.tile (pad_output_name pad.pio) ∷ at_pin parts pad.tile (output_enable_name pad.pio) ∷ []
    else []))

-- out of a pad
abbrev pub pad_entries : Parts → Bits → Pad → List Entry
pad_entries parts bits pad = entries_by (PadEnd pad) (pad_door (pin_type parts bits pad / 4)) (pad_lasts parts pad (pin_type parts bits pad / 4))

-- out of the pads of a tile, where it is an IO tile
abbrev pub io_entries : Parts → Bits → Tile → List Entry
io_entries parts bits tile = if is_io_kind tile.kind then flat_map (pad_entries parts bits) (pads_in tile.at) else []

-- the clocks of the two ports of a block RAM, by the numbers of their wires
abbrev pub is_ram_clock : ℕ → Bool
is_ram_clock n = (n == 70) || (n == 71)

-- the wire of this number of a block RAM, unless the RAM drives it or it is a clock; whatever the modes of the ports are
abbrev pub ram_last : Parts → RamSite → ℕ → Option Point
ram_last parts s n = if is_read_out n || is_ram_clock n then None else at_pin parts (ram_tile s n) (ram_name n)

-- the wires by which paths get into a block RAM, the enables of its clocks among them
unfoldable pub ram_lasts : Parts → RamSite → List (Option Point)
ram_lasts parts s = map (ram_last parts s) (range_with_len 0 76)

-- into a block RAM
abbrev pub ram_entries : Parts → RamSite → List Entry
ram_entries parts s = entries_by (Ram s.lower) Port (ram_lasts parts s)

-- All ends with the points by which a path leads into them: flip-flops, pads that the chip drives, whether a package has pins for them or
-- not, and block RAMs in use. What isn't on the chip is left out.
abbrev pub entries : Parts → Bits → List Entry
entries parts bits =
    flat_map (tile_entries parts bits) (logic_tiles parts) ++ flat_map (pad_entries parts bits) (pads parts) ++ flat_map (ram_entries parts) (rams parts bits)
