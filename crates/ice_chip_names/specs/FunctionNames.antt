-- The names of the functions that are read: all of them, and their reader.
use Rattle.std.specs.Prelude.{◌≡◌, ℕ, ◌<◌, Option, None, Some, List, codes, bytes_eq, option_map, IfSome, if◌then◌else◌, [], ◌∷◌, ◌++◌}
use Rattle.ice_chip_names.specs.Names.{number_behind, cell_function, column_buffer_function, falling_clock_function, input_enable_function, pin_type_function, digit}
use Rattle.ice_chip_names.specs.NameReaders.{number_within, number_or, numbered_or}
use Rattle.ice_chip_names.specs.declared.function_names.TileFunction.{TileFunction}
use Rattle.ice_chip_names.specs.declared.function_names.TileFunction.TheVariants.{Cell, FallingClock, CarrySet, PinType, InputEnable, PullUp, ColumnBuffer, PowerUp, RamMode}

-- the carry into the first cell of a tile
abbrev pub carry_set_function : List ℕ
carry_set_function = codes "CarryInSet"

-- `IoCtrl.REN_P`, a pad's pull-up
abbrev pub pull_up_function : ℕ → List ℕ
pull_up_function pio = codes "IoCtrl.REN_" ++ digit pio ∷ []

-- `RamConfig.PowerUp`, which is 0 for a block RAM in use, and `RamConfig.CBIT_K`, the digits of the modes of its ports
abbrev pub power_up_function : List ℕ
power_up_function = codes "RamConfig.PowerUp"

abbrev pub ram_mode_function : ℕ → List ℕ
ram_mode_function place = codes "RamConfig.CBIT_" ++ digit place ∷ []

-- ---- all of them
abbrev pub function_name : TileFunction → List ℕ
function_name (Cell cell) = cell_function cell
function_name FallingClock = falling_clock_function
function_name CarrySet = carry_set_function
function_name (PinType pio place) = pin_type_function pio place
function_name (InputEnable pio) = input_enable_function pio
function_name (PullUp pio) = pull_up_function pio
function_name (ColumnBuffer n) = column_buffer_function n
function_name PowerUp = power_up_function
function_name (RamMode place) = ram_mode_function place

-- a tile has eight cells, two pads with pin types of six digits, eight globals, and ports of a block RAM whose modes have four digits
abbrev pub IsTileFunction : TileFunction → Type 0
IsTileFunction (Cell cell) = cell < 8
IsTileFunction (PinType pio place) = (pio < 2) × (place < 6)
IsTileFunction (InputEnable pio) = pio < 2
IsTileFunction (PullUp pio) = pio < 2
IsTileFunction (ColumnBuffer n) = n < 8
IsTileFunction (RamMode place) = place < 4
IsTileFunction function = Unit {0}

-- ---- the reader
abbrev pub pad_function : ℕ → List ℕ → Option TileFunction
pad_function pio rest = option_map (PinType pio) (number_behind 6 (codes ".PINTYPE_") rest)

-- a function whose name has no number
abbrev pub lone_function : List ℕ → Option TileFunction
lone_function name =
    if bytes_eq name (codes "NegClk") then Some FallingClock
    else (if bytes_eq name (codes "CarryInSet") then Some CarrySet
    else (if bytes_eq name (codes "RamConfig.PowerUp") then Some PowerUp
    else None))

abbrev pub mode_function : List ℕ → Option TileFunction
mode_function name = number_or RamMode (number_behind 4 (codes "RamConfig.CBIT_") name) (lone_function name)

abbrev pub buffer_function : List ℕ → Option TileFunction
buffer_function name = number_or ColumnBuffer (number_behind 8 (codes "ColBufCtrl.glb_netwk_") name) (mode_function name)

abbrev pub enable_function : List ℕ → Option TileFunction
enable_function name = number_or InputEnable (number_behind 2 (codes "IoCtrl.IE_") name) (number_or PullUp (number_behind 2 (codes "IoCtrl.REN_") name) (buffer_function name))

abbrev pub outer_function : List ℕ → Option TileFunction
outer_function name = numbered_or pad_function (number_within 2 (codes "IOB_") name) (enable_function name)

-- the function that a name is of, or None where it is no such name
abbrev pub tile_function : List ℕ → Option TileFunction
tile_function name = number_or Cell (number_behind 8 (codes "LC_") name) (outer_function name)

-- ---- maker and reader are inverse
-- the name is that of a function of a tile
pub record IsNamedFunction (name : List ℕ) (function : TileFunction) : Type 0 where
  pub within : IsTileFunction function
  pub named : name ≡ function_name function

pub record FunctionNamesAreRead : Type 0 where
  -- each name is read as its function
  pub read : (function : TileFunction) → IsTileFunction function → tile_function (function_name function) ≡ Some function
  -- and what is read is the name of that function
  pub told : (name : List ℕ) → IfSome (tile_function name) (IsNamedFunction name)
