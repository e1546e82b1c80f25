-- Names of wires that lead into the cells, pads or block RAM of a tile, or out of them.
use Rattle.std.specs.Prelude.{ℕ, List, Bool, ◌&&◌, not, true, false, nat_eq, codes}
use Rattle.std.specs.Option.{option_map_or}
use Rattle.std.specs.List.{starts_with}
use Rattle.ice_chip.specs.RamNames.{is_read_out, has_ram_wire}
use Rattle.ice_chip.specs.WireNames.{tile_wire}
use Rattle.ice_chip.specs.declared.rows.TileKind.{TileKind}
use Rattle.ice_chip.specs.declared.rows.TileKind.TheVariants.{Io, Logic}
use Rattle.ice_chip_names.specs.declared.wire_names.TileWire.{TileWire}
use Rattle.ice_chip_names.specs.declared.wire_names.TileWire.TheVariants.{CellInput, CellOutput, CarryOut, LookUp, Clock, ClockEnable, SetReset, FirstCarry, PadInput, PadOutput, OutputEnable, InputClock, OutputClock, InOutEnable, Fabout, Global, Ram}

-- what the cells, pads or block RAM of such a tile read
abbrev pub is_input_of : TileKind → TileWire → Bool
is_input_of Io (PadOutput pio) = true
is_input_of Io (OutputEnable pio) = true
is_input_of Io Fabout = true
is_input_of Io InputClock = true
is_input_of Io OutputClock = true
is_input_of Io InOutEnable = true
is_input_of Logic (CellInput cell input) = true
is_input_of Logic Clock = true
is_input_of Logic ClockEnable = true
is_input_of Logic SetReset = true
is_input_of Logic FirstCarry = true
is_input_of kind (Ram n) = has_ram_wire kind n && not (is_read_out n)
is_input_of kind wire = false

abbrev pub is_input_name : TileKind → List ℕ → Bool
is_input_name kind name = option_map_or (is_input_of kind) (tile_wire name) false

-- what drives a wire in such a tile, other than switches
abbrev pub is_output_of : TileKind → TileWire → Bool
is_output_of kind (Global n) = true
is_output_of Io (PadInput pio) = true
is_output_of Logic (CellOutput cell) = true
is_output_of Logic (CarryOut cell) = true
is_output_of Logic (LookUp cell) = true
is_output_of kind (Ram n) = has_ram_wire kind n && is_read_out n
is_output_of kind wire = false

abbrev pub is_output_name : TileKind → List ℕ → Bool
is_output_name kind name = option_map_or (is_output_of kind) (tile_wire name) false

-- a name of a memory's wire, which no route uses
abbrev pub is_memory_name : List ℕ → Bool
is_memory_name name = starts_with nat_eq name (codes "ram/")
