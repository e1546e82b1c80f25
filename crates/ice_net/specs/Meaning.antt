-- What a netlist means: the level of each signal, and one step. Levels are given port by port, as the levels of the ports' pads.
use Rattle.std.specs.Prelude.{ℕ, ◌+◌, ◌*◌, ◌/◌, ◌%◌, ◌^◌, ◌==◌, Bool, true, false, ◌&&◌, ◌||◌, Option, Some, None, List, [], ◌∷◌, length, map, if◌then◌else◌, slice_get, slice_index_or, unwrap_or}
use Rattle.std.specs.Option.{option_map_or}
use Rattle.std.specs.List.{zip}
use Rattle.ice_base.specs.declared.number.SignalNo.{SignalNo}
use Rattle.ice_base_values.specs.System.{System, value, present, gapped, machine_shows}
use Rattle.ice_net.specs.declared.cell.Cell.{Cell}
use Rattle.ice_net.specs.declared.driver.Drive.{Drive}
use Rattle.ice_net.specs.declared.kind.CellKind.{CellKind}
use Rattle.ice_net.specs.declared.kind.CellKind.TheVariants.{Lut, Cover, Carry, Flop, PadCell, Global}
use Rattle.ice_net.specs.declared.port.Port.{Port}
use Rattle.ice_net.specs.declared.driver.SignalDriver.{SignalDriver}
use Rattle.ice_net.specs.declared.driver.SignalDriver.TheVariants.{Nothing, Pad, Output}
use Rattle.ice_net.specs.NetlistData.{NetlistData, port_at}
use Rattle.ice_net.specs.Drivers.{numbers, pin_of, driver_of}
use Rattle.ice_net.specs.Kinds.{is_edge, fired}
use Rattle.ice_net.specs.Drives.{port_drive, at_input}

-- ---- levels
-- the number that levels make, the first the lowest digit
abbrev pub number_of : List Bool → ℕ
number_of [] = 0
number_of (level ∷ levels) = (if level then 1 else 0) + 2 * number_of levels

-- a bit of a table
abbrev pub table_bit : ℕ → ℕ → Bool
table_bit table j = (table / 2 ^ j) % 2 == 1

-- whether two of the three are 1
abbrev pub majority : Bool → Bool → Bool → Bool
majority x y z = x && y || x && z || y && z

-- the level of a port, by the place of the port
abbrev pub level_by : List Bool → Option ℕ → Bool
level_by levels None = false
level_by levels (Some k) = slice_index_or levels k false

-- the level of the pad at a signal, where the signal is a port
abbrev pub pad_level : List Port → List Bool → Option SignalNo → Bool
pad_level ports levels None = false
pad_level ports levels (Some signal) = level_by levels (port_at signal.0 ports)

-- ---- the value of a signal
-- the inputs that a cell's output depends on. That of a flip-flop, and D_IN_0 of an SB_IO, depends on none.
abbrev pub reads_by : CellKind → List (Option SignalNo) → List (Option SignalNo)
reads_by (Flop falling enable reset) ins = []
reads_by (PadCell pin_type pullup) ins = []
reads_by kind ins = ins

-- What a cell's output makes of what these inputs read: of what the cell keeps where it is a flip-flop, and of the level of its
-- pad where it is an SB_IO.
abbrev pub makes_by : CellKind → Bool → Bool → List Bool → Bool
makes_by (Lut table) kept pad xs = table_bit table (number_of xs)
makes_by (Cover table width) kept pad xs = table_bit table (number_of xs)
makes_by Carry kept pad xs = majority (slice_index_or xs 0 false) (slice_index_or xs 1 false) (slice_index_or xs 2 false)
makes_by (Flop falling enable reset) kept pad xs = kept
makes_by (PadCell pin_type pullup) kept pad xs = pad
makes_by Global kept pad xs = slice_index_or xs 0 false

-- the signals at the inputs of a cell that its output depends on
abbrev pub cell_reads : Cell → List (Option ℕ)
cell_reads cell = numbers (reads_by cell.kind cell.ins)

-- what the driver of a signal reads
abbrev pub reads : NetlistData → SignalDriver → List (Option ℕ)
reads n (Output i) = option_map_or (λ (cell : Cell). cell_reads cell) (slice_get n.cells i) []
reads n other = []

-- what the driver of a signal makes of what it reads, by the levels of the ports and what the cells keep
abbrev pub makes : NetlistData → List Bool → List Bool → SignalDriver → List Bool → Bool
makes n levels kept Nothing xs = false
makes n levels kept (Pad k) xs = slice_index_or levels k false
makes n levels kept (Output i) xs =
    option_map_or (λ (cell : Cell). makes_by cell.kind (slice_index_or kept i false) (pad_level n.ports levels (pin_of cell)) xs) (slice_get n.cells i) false

-- the signals that a signal depends on
abbrev pub depends_on : NetlistData → ℕ → List ℕ
depends_on n s = present (reads n (driver_of n s))

-- the netlist as a system of signals at one moment. A missing input reads 0.
abbrev pub system_of : NetlistData → List Bool → List Bool → System ℕ Bool
system_of n levels kept = gapped (λ s. reads n (driver_of n s)) false (λ s. makes n levels kept (driver_of n s))

-- the value of a signal. As many steps back as there are signals, and one more, are enough where there is no loop.
abbrev pub signal_value : NetlistData → List Bool → List Bool → ℕ → Bool
signal_value n levels kept s = unwrap_or (value (system_of n levels kept) (length n.names + 1) s) false

-- ---- one step
-- what is kept from step to step
pub record State : Type 0 where
  -- for each cell what it keeps: a flip-flop its level, and the others nothing, which is written 0
  pub kept : List Bool
  -- for each cell the clock's level in the step before, where it is a flip-flop that has seen a step
  pub clocks : List (Option Bool)

-- a missing enable reads 1, and a flip-flop without one is always enabled
abbrev pub enable_level : (ℕ → Bool) → Bool → List (Option SignalNo) → Bool
enable_level v true ins = at_input true v ins 2
enable_level v false ins = true

-- the level at the set or the reset, which stands behind the enable; 0 where there is none
abbrev pub set_level : (ℕ → Bool) → Bool → List (Option SignalNo) → Bool
set_level v true ins = at_input false v ins 3
set_level v false ins = at_input false v ins 2

-- what a cell keeps after a step in which signals have the values v, by what it kept and its clock's level before
abbrev pub kept_by : (ℕ → Bool) → CellKind → List (Option SignalNo) → Bool → Option Bool → Bool
kept_by v (Flop falling enable reset) ins kept clock =
    fired reset (is_edge falling clock (at_input false v ins 0)) (enable_level v enable ins) (set_level v enable ins) (at_input false v ins 1) kept
kept_by v kind ins kept clock = false

-- the clock's level
abbrev pub clock_by : (ℕ → Bool) → CellKind → List (Option SignalNo) → Option Bool
clock_by v (Flop falling enable reset) ins = Some (at_input false v ins 0)
clock_by v kind ins = None

abbrev pub kept_after : (ℕ → Bool) → List Cell → State → List Bool
kept_after v cells state = map (λ (x : Cell × (Bool × Option Bool)). kept_by v x.0.kind x.0.ins x.1.0 x.1.1) (zip cells (zip state.kept state.clocks))

abbrev pub clocks_after : (ℕ → Bool) → List Cell → List (Option Bool)
clocks_after v cells = map (λ (cell : Cell). clock_by v cell.kind cell.ins) cells

-- one step: all values are taken with what was kept before it; what it changes is seen from the next step on
abbrev pub step : NetlistData → State → List Bool → State × List Drive
step n state levels = (
  record { kept = kept_after (signal_value n levels state.kept) n.cells state; clocks = clocks_after (signal_value n levels state.kept) n.cells },
  map (port_drive n.cells (signal_value n levels state.kept)) n.ports,
)

-- at the start all flip-flops are 0, and no clock has been seen
abbrev pub start : NetlistData → State
start n = record { kept = map (λ (cell : Cell). false) n.cells; clocks = map (λ (cell : Cell). None) n.cells }

-- what each port drives, step by step, for a list of levels
abbrev pub shows : NetlistData → List (List Bool) → List (List Drive)
shows n levels = machine_shows (step n) (start n) levels
