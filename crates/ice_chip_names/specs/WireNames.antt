-- The names of the wires of cells, pads and block RAMs, and of globals, in a tile: makers of some, all of them, and their reader.
use Rattle.std.specs.Prelude.{◌≡◌, ℕ, ◌<◌, Option, None, Some, List, codes, bytes_eq, option_map, IfSome, if◌then◌else◌, [], ◌∷◌, ◌++◌}
use Rattle.std.specs.Option.{option_or}
use Rattle.ice_chip_names.specs.Names.{number_behind, in_out_enable_name, input_clock_name, input_name, output_clock_name, output_enable_name, pad_input_name, pad_output_name, digit}
use Rattle.ice_chip_names.specs.NameReaders.{number_within, number_or, numbered_or}
use Rattle.ice_chip_names.specs.RamNames.{ram_name, ram_number}
use Rattle.ice_chip_names.specs.declared.wire_names.TileWire.{TileWire}
use Rattle.ice_chip_names.specs.declared.wire_names.TileWire.TheVariants.{CellInput, CellOutput, CarryOut, LookUp, Clock, ClockEnable, SetReset, CarryIn, FirstCarry, PadInput, PadOutput, OutputEnable, InputClock, OutputClock, InOutEnable, Fabout, Global, Ram}

-- ---- cells
-- `lutff_I/out`, `lutff_I/cout` and `lutff_I/lout`
abbrev pub output_name : ℕ → List ℕ
output_name cell = codes "lutff_" ++ digit cell ∷ codes "/out"

abbrev pub carry_out_name : ℕ → List ℕ
carry_out_name cell = codes "lutff_" ++ digit cell ∷ codes "/cout"

abbrev pub look_up_name : ℕ → List ℕ
look_up_name cell = codes "lutff_" ++ digit cell ∷ codes "/lout"

-- what all cells of a tile share
abbrev pub clock_name : List ℕ
clock_name = codes "lutff_global/clk"

abbrev pub clock_enable_name : List ℕ
clock_enable_name = codes "lutff_global/cen"

abbrev pub set_reset_name : List ℕ
set_reset_name = codes "lutff_global/s_r"

-- the carry out of the tile below, and the carry into the first cell
abbrev pub carry_in_name : List ℕ
carry_in_name = codes "carry_in"

abbrev pub first_carry_name : List ℕ
first_carry_name = codes "carry_in_mux"

-- ---- globals
-- what feeds a global from an IO tile
abbrev pub fabout_name : List ℕ
fabout_name = codes "fabout"

-- `glb_netwk_N`
abbrev pub global_name : ℕ → List ℕ
global_name n = codes "glb_netwk_" ++ digit n ∷ []

-- ---- all of them
abbrev pub wire_name : TileWire → List ℕ
wire_name (CellInput cell input) = input_name cell input
wire_name (CellOutput cell) = output_name cell
wire_name (CarryOut cell) = carry_out_name cell
wire_name (LookUp cell) = look_up_name cell
wire_name Clock = clock_name
wire_name ClockEnable = clock_enable_name
wire_name SetReset = set_reset_name
wire_name CarryIn = carry_in_name
wire_name FirstCarry = first_carry_name
wire_name (PadInput pio) = pad_input_name pio
wire_name (PadOutput pio) = pad_output_name pio
wire_name (OutputEnable pio) = output_enable_name pio
wire_name InputClock = input_clock_name
wire_name OutputClock = output_clock_name
wire_name InOutEnable = in_out_enable_name
wire_name Fabout = fabout_name
wire_name (Global n) = global_name n
wire_name (Ram n) = ram_name n

-- a tile has eight cells of four inputs each, two pads and eight globals; a block RAM has 76 wires
abbrev pub IsTileWire : TileWire → Type 0
IsTileWire (CellInput cell input) = (cell < 8) × (input < 4)
IsTileWire (CellOutput cell) = cell < 8
IsTileWire (CarryOut cell) = cell < 8
IsTileWire (LookUp cell) = cell < 8
IsTileWire (PadInput pio) = pio < 2
IsTileWire (PadOutput pio) = pio < 2
IsTileWire (OutputEnable pio) = pio < 2
IsTileWire (Global n) = n < 8
IsTileWire (Ram n) = n < 76
IsTileWire wire = Unit {0}

-- ---- the reader
-- the wire of a cell, by what its name has behind the cell's digit
abbrev pub cell_wire : ℕ → List ℕ → Option TileWire
cell_wire cell pin =
    if bytes_eq pin (codes "/out") then Some (CellOutput cell)
    else (if bytes_eq pin (codes "/cout") then Some (CarryOut cell)
    else (if bytes_eq pin (codes "/lout") then Some (LookUp cell)
    else option_map (CellInput cell) (number_behind 4 (codes "/in_") pin)))

-- the wire of a pad, by what its name has behind the pad's digit
abbrev pub pad_wire : ℕ → List ℕ → Option TileWire
pad_wire pio pin =
    if bytes_eq pin (codes "/D_IN_0") then Some (PadInput pio)
    else (if bytes_eq pin (codes "/D_OUT_0") then Some (PadOutput pio)
    else (if bytes_eq pin (codes "/OUT_ENB") then Some (OutputEnable pio)
    else None))

-- a wire whose name has no number
abbrev pub lone_wire : List ℕ → Option TileWire
lone_wire name =
    if bytes_eq name (codes "lutff_global/clk") then Some Clock
    else (if bytes_eq name (codes "lutff_global/cen") then Some ClockEnable
    else (if bytes_eq name (codes "lutff_global/s_r") then Some SetReset
    else (if bytes_eq name (codes "carry_in") then Some CarryIn
    else (if bytes_eq name (codes "carry_in_mux") then Some FirstCarry
    else (if bytes_eq name (codes "io_global/inclk") then Some InputClock
    else (if bytes_eq name (codes "io_global/outclk") then Some OutputClock
    else (if bytes_eq name (codes "io_global/cen") then Some InOutEnable
    else (if bytes_eq name (codes "fabout") then Some Fabout
    else None))))))))

-- a wire of a block RAM
abbrev pub ram_wire : List ℕ → Option TileWire
ram_wire name = option_map Ram (ram_number name)

abbrev pub global_wire : List ℕ → Option TileWire
global_wire name = number_or Global (number_behind 8 (codes "glb_netwk_") name) (option_or (lone_wire name) (ram_wire name))

abbrev pub outer_wire : List ℕ → Option TileWire
outer_wire name = numbered_or pad_wire (number_within 2 (codes "io_") name) (global_wire name)

-- the wire that a name is of, or None where it is no such name
abbrev pub tile_wire : List ℕ → Option TileWire
tile_wire name = numbered_or cell_wire (number_within 8 (codes "lutff_") name) (outer_wire name)

-- ---- maker and reader are inverse
-- the name is that of a wire of a tile
pub record IsNamedWire (name : List ℕ) (wire : TileWire) : Type 0 where
  pub within : IsTileWire wire
  pub named : name ≡ wire_name wire

pub record WireNamesAreRead : Type 0 where
  -- each name is read as its wire
  pub read : (wire : TileWire) → IsTileWire wire → tile_wire (wire_name wire) ≡ Some wire
  -- and what is read is the name of that wire
  pub told : (name : List ℕ) → IfSome (tile_wire name) (IsNamedWire name)
