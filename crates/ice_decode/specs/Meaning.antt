-- What configuration bits mean: the level of each point of the chip, and one step. It is the meaning of bits without a fault.
use Rattle.std.specs.Prelude.{ℕ, ◌+◌, ◌-◌, ◌/◌, ◌==◌, ◌&&◌, nat_lt, Bool, true, false, Option, None, Some, List, [], ◌∷◌, map, if◌then◌else◌, codes, slice_index_or, unwrap_or}
use Rattle.std.specs.List.{zip}
use Rattle.ice_base.specs.declared.number.TileAt.{TileAt}
use Rattle.ice_base_values.specs.System.{System, value, gapped, reading, machine_shows}
use Rattle.ice_chip.specs.Database.{Parts, same_tile}
use Rattle.ice_chip.specs.Lookups.{colbuf_of, names_of, gbufpin_of}
use Rattle.ice_chip.specs.Names.{is_global_name, input_clock_name, output_clock_name, in_out_enable_name, pad_output_name, output_enable_name, column_buffer_function}
use Rattle.ice_chip.specs.declared.rows.Pad.{Pad}
use Rattle.ice_chip.specs.declared.placed.PlacedName.{PlacedName}
use Rattle.ice_bits.specs.Configuration.{Bits}
use Rattle.ice_bits.specs.Settings.{set_at}
use Rattle.ice_net.specs.declared.driver.Drive.{Drive}
use Rattle.ice_net.specs.declared.driver.Drive.TheVariants.{Off}
use Rattle.ice_net.specs.declared.kind.Reset.TheVariants.{Nothing as NeitherWay}
use Rattle.ice_net.specs.Drives.{level_drive}
use Rattle.ice_net.specs.Kinds.{is_edge, fired}
use Rattle.ice_net.specs.Meaning.{State, majority}
use Rattle.ice_decode.specs.declared.point.Point.{Point}
use Rattle.ice_decode.specs.declared.point.Point.TheVariants.{Wire, Carry}
use Rattle.ice_decode.specs.declared.driver.Switch.{Switch}
use Rattle.ice_decode.specs.declared.driver.Driver.{Driver}
use Rattle.ice_decode.specs.declared.driver.Driver.TheVariants.{Nothing, By, Several}
use Rattle.ice_decode.specs.declared.role.Role.{Role}
use Rattle.ice_decode.specs.declared.role.Role.TheVariants.{Plain, Output, LookUp, CarryOut, PadInput, RamOutput, Global, CarryIn, ClockEnable}
use Rattle.ice_chip.specs.RamNames.{ram_name}
use Rattle.ice_decode.specs.Drivers.{role_of, number_at, driver}
use Rattle.ice_decode.specs.Cells.{has_flop, reset_of, looked_up}
use Rattle.ice_decode.specs.Direct.{takes_pad}
use Rattle.ice_decode.specs.Pads.{Store, CellStore, InputStore, OutputStore, stores, kept_at, input_kept, output_kept, has_input_register, has_output_register, level_of, pad_gives, pin_type, pin_level, part_drive}
use Rattle.ice_decode.specs.Reads.{cell_inputs, count_points, reads_at}

-- ---- column buffers
-- the number of the global whose name stands among these at a place
abbrev pub global_at : TileAt → List PlacedName → Option ℕ
global_at t [] = None
global_at t (n ∷ names) = if same_tile n.tile t && is_global_name n.name then Some (number_at n.name 10) else global_at t names

-- a column buffer lets a global through; one that no row of the database serves always does
abbrev pub lets_through : Parts → Bits → Option TileAt → ℕ → Bool
lets_through parts bits None n = true
lets_through parts bits (Some t) n = set_at parts bits t (column_buffer_function n) 0

abbrev pub passes_global : Parts → Bits → TileAt → Option ℕ → Bool
passes_global parts bits t None = true
passes_global parts bits t (Some n) = lets_through parts bits (colbuf_of parts t) n

-- a row of switches that is on gives the level of its source; 0 where that is a global, by its name in the row's tile, whose
-- column buffer there is off
abbrev pub passes : Parts → Bits → Switch → Bool
passes parts bits s = passes_global parts bits s.tile (global_at s.tile (names_of parts s.source.0))

-- ---- the level of a point
-- the first of the levels that are read
abbrev pub first_level : List Bool → Bool
first_level xs = slice_index_or xs 0 false

-- the level of the pad that feeds a global; 0 where no row of the database names one
abbrev pub global_gives : Parts → Bits → List Pad → List Bool → Option Pad → Bool
global_gives parts bits bonded levels None = false
global_gives parts bits bonded levels (Some pad) = pad_gives parts bits bonded levels pad

-- what a wire without a row that is on makes of what it reads, by its role
abbrev pub role_makes : Parts → Bits → List (ℕ × ℕ × ℕ) → List Pad → List Bool → List Bool → Role → List Bool → Bool
role_makes parts bits extras bonded levels kept Plain xs = false
role_makes parts bits extras bonded levels kept (Output t i) xs = if has_flop parts bits t i then kept_at parts kept t i else looked_up parts bits t i xs
role_makes parts bits extras bonded levels kept (LookUp t i) xs = looked_up parts bits t i xs
role_makes parts bits extras bonded levels kept (CarryOut t i) xs = first_level xs
role_makes parts bits extras bonded levels kept (PadInput pad) xs = if has_input_register parts bits pad then input_kept parts kept pad else pad_gives parts bits bonded levels pad
role_makes parts bits extras bonded levels kept (RamOutput pad) xs = level_of bonded levels pad
role_makes parts bits extras bonded levels kept (Global n) xs = if takes_pad parts extras n then global_gives parts bits bonded levels (gbufpin_of parts n) else first_level xs
role_makes parts bits extras bonded levels kept (CarryIn t) xs = set_at parts bits t (codes "CarryInSet") 0
role_makes parts bits extras bonded levels kept ClockEnable xs = true

-- what a wire makes of what it reads, by what drives it
abbrev pub driven_makes : Parts → Bits → List (ℕ × ℕ × ℕ) → List Pad → List Bool → List Bool → Role → Driver → List Bool → Bool
driven_makes parts bits extras bonded levels kept role Nothing xs = role_makes parts bits extras bonded levels kept role xs
driven_makes parts bits extras bonded levels kept role (By s) xs = passes parts bits s && first_level xs
driven_makes parts bits extras bonded levels kept role (Several first second) xs = false

-- What a point makes of what it reads: `levels` has the levels of the package's pads, `bonded`, in order, and `kept` those of all stores. A carry is the majority of
-- its three inputs, and 0 where it isn't enabled, since it reads nothing then.
abbrev pub makes_at : Parts → Bits → List (ℕ × ℕ × ℕ) → List Pad → List Bool → List Bool → Point → List Bool → Bool
makes_at parts bits extras bonded levels kept (Wire w) xs = driven_makes parts bits extras bonded levels kept (role_of parts w.0) (driver parts bits w.0) xs
makes_at parts bits extras bonded levels kept (Carry t i) xs = majority (slice_index_or xs 0 false) (slice_index_or xs 1 false) (slice_index_or xs 2 false)

-- the configured chip as a system of points at one moment. An input that has no wire reads 0.
abbrev pub chip_system : Parts → Bits → List (ℕ × ℕ × ℕ) → List Pad → List Bool → List Bool → System Point Bool
chip_system parts bits extras bonded levels kept = gapped (reads_at parts bits extras) false (makes_at parts bits extras bonded levels kept)

-- the level of a point. As many steps back as there are points, and one more, are enough where there is no loop.
abbrev pub point_level : Parts → Bits → List (ℕ × ℕ × ℕ) → List Pad → List Bool → List Bool → Point → Bool
point_level parts bits extras bonded levels kept p = unwrap_or (value (chip_system parts bits extras bonded levels kept) (count_points parts + 1) p) false

-- ---- one step
-- what the table of a cell gives, by the levels of points
abbrev pub table_level : Parts → Bits → (Point → Bool) → TileAt → ℕ → Bool
table_level parts bits v t i = looked_up parts bits t i (map (reading false v) (cell_inputs parts t i))

-- the level of a tile's clock
abbrev pub clock_level : Parts → (Point → Bool) → TileAt → Bool
clock_level parts v t = pin_level false parts v t (codes "lutff_global/clk")

-- what a flip-flop keeps after a step in which points have the levels v, by what it kept and its clock's level before. The flip-flops
-- of a tile share clock, enable, set or reset, and the clock's active edge. An enable that has no wire reads 1.
abbrev pub flop_after : Parts → Bits → (Point → Bool) → TileAt → ℕ → Bool → Option Bool → Bool
flop_after parts bits v t i kept clock =
    fired (reset_of parts bits t i) (is_edge (set_at parts bits t (codes "NegClk") 0) clock (clock_level parts v t))
    (pin_level true parts v t (codes "lutff_global/cen")) (pin_level false parts v t (codes "lutff_global/s_r")) (table_level parts bits v t i) kept

-- What a register of a pad keeps after a step in which its datum has a level. It has neither set nor reset, and takes its datum at the
-- rising edge of its clock; an enable that has no wire reads 1.
abbrev pub register_after : Parts → (Point → Bool) → TileAt → List ℕ → Bool → Bool → Option Bool → Bool
register_after parts v t clock_name datum kept clock =
    fired NeitherWay (is_edge false clock (pin_level false parts v t clock_name)) (pin_level true parts v t in_out_enable_name) false datum kept

-- What a store keeps after a step, by what it kept and its clock's level before. One that the bits don't use keeps nothing, which is
-- written 0.
abbrev pub store_after : Parts → Bits → List Pad → List Bool → (Point → Bool) → Store → Bool → Option Bool → Bool
store_after parts bits bonded levels v (CellStore t i) kept clock = has_flop parts bits t i && flop_after parts bits v t i kept clock
store_after parts bits bonded levels v (InputStore pad) kept clock =
    has_input_register parts bits pad && register_after parts v pad.tile input_clock_name (pad_gives parts bits bonded levels pad) kept clock
store_after parts bits bonded levels v (OutputStore pad) kept clock =
    has_output_register parts bits pad && register_after parts v pad.tile output_clock_name (pin_level false parts v pad.tile (pad_output_name pad.pio)) kept clock

abbrev pub store_kept_after : Parts → Bits → List Pad → List Bool → (Point → Bool) → Store × (Bool × Option Bool) → Bool
store_kept_after parts bits bonded levels v x = store_after parts bits bonded levels v x.0 x.1.0 x.1.1

-- the clock's level of a store that the bits use
abbrev pub clock_after : Parts → Bits → (Point → Bool) → Store → Option Bool
clock_after parts bits v (CellStore t i) = if has_flop parts bits t i then Some (clock_level parts v t) else None
clock_after parts bits v (InputStore pad) = if has_input_register parts bits pad then Some (pin_level false parts v pad.tile input_clock_name) else None
clock_after parts bits v (OutputStore pad) = if has_output_register parts bits pad then Some (pin_level false parts v pad.tile output_clock_name) else None

-- what the stores keep after a step
abbrev pub state_after : Parts → Bits → List Pad → List Bool → (Point → Bool) → State → State
state_after parts bits bonded levels v state = record {
  kept = map (store_kept_after parts bits bonded levels v) (zip (stores parts) (zip state.kept state.clocks));
  clocks = map (clock_after parts bits v) (stores parts);
}

-- what the chip drives a pad of an IO tile with, by the levels of points and what is kept
abbrev pub pad_drive : Parts → Bits → List Bool → (Point → Bool) → Pad → Drive
pad_drive parts bits kept v pad =
    part_drive (pin_type parts bits pad / 4) (pin_level false parts v pad.tile (pad_output_name pad.pio)) (pin_level false parts v pad.tile (output_enable_name pad.pio)) (output_kept parts kept pad)

-- whether the pin of this number of a block RAM is driven: those that enable a port, `ram/RE` and `ram/WE`, where the port's clock is
-- enabled, and all others always. An enable of a clock that has no wire, or one that nothing drives, reads 1.
abbrev pub is_ram_driven : Parts → (Point → Bool) → TileAt → ℕ → Bool
is_ram_driven parts v t n =
    if n == 72 then pin_level true parts v t (ram_name 74) else (if n == 73 then pin_level true parts v t (ram_name 75) else true)

-- what the chip drives the pin of this number of a block RAM with: the level of its wire
abbrev pub ram_drive : Parts → (Point → Bool) → TileAt → ℕ → Drive
ram_drive parts v t n = if is_ram_driven parts v t n then level_drive (pin_level false parts v t (ram_name n)) else Off

-- what the chip drives a pad with: pads 0 and 1 are those of IO tiles, and the pins of a block RAM follow
abbrev pub drive_at : Parts → Bits → List Bool → (Point → Bool) → Pad → Drive
drive_at parts bits kept v pad =
    if nat_lt pad.pio 2 then pad_drive parts bits kept v pad else (if nat_lt pad.pio 78 then ram_drive parts v pad.tile (pad.pio - 2) else Off)

-- One step: all levels are taken with what was kept before it. `bonded` are the pads of the package, which have the levels, and `shown`
-- those whose drives are told.
abbrev pub chip_step : Parts → Bits → List (ℕ × ℕ × ℕ) → List Pad → List Pad → State → List Bool → State × List Drive
chip_step parts bits extras bonded shown state levels = (
  state_after parts bits bonded levels (point_level parts bits extras bonded levels state.kept) state,
  map (drive_at parts bits state.kept (point_level parts bits extras bonded levels state.kept)) shown,
)

-- at the start all stores are 0, and no clock has been seen
abbrev pub chip_start : Parts → State
chip_start parts = record { kept = map (λ (s : Store). false) (stores parts); clocks = map (λ (s : Store). None) (stores parts) }

-- what the chip drives at the pads `shown`, step by step, for a list of levels of the pads of the package
abbrev pub bits_show : Parts → Bits → List (ℕ × ℕ × ℕ) → List Pad → List Pad → List (List Bool) → List (List Drive)
bits_show parts bits extras bonded shown levels = machine_shows (chip_step parts bits extras bonded shown) (chip_start parts) levels
