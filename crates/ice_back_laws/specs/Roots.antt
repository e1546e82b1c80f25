-- Where the level of a wire comes from, once all wires that pass it on are passed.
use Rattle.std.specs.Prelude.{◌≡◌, ℕ, ◌+◌, ◌<◌, ◌==◌, ◌&&◌, ◌||◌, Bool, true, false, Option, Some, None, List, [], ◌∷◌, map, option_map, if◌then◌else◌, length, slice_index_or, unwrap_or, codes}
use Rattle.std.specs.List.{list_any, range_with_len}
use Rattle.std.proofs.Common.{suc}
use Rattle.ice_base.specs.declared.number.TileAt.{TileAt}
use Rattle.ice_base_values.specs.System.{System, value, gapped}
use Rattle.ice_chip.specs.Database.{Parts, same_pad}
use Rattle.ice_chip.specs.Lookups.{gbufpin_of, names_of, wire_named}
use Rattle.ice_chip.specs.PinNames.{is_input_name}
use Rattle.ice_chip.specs.Names.{pad_input_name}
use Rattle.ice_chip.specs.declared.placed.PlacedName.{PlacedName}
use Rattle.ice_chip.specs.declared.rows.TileKind.TheVariants.{Io, Logic}
use Rattle.ice_chip.specs.declared.rows.Pad.{Pad}
use Rattle.ice_bits.specs.Configuration.{Bits}
use Rattle.ice_bits.specs.Settings.{set_at}
use Rattle.ice_net.specs.Meaning.{number_of}
use Rattle.ice_decode.specs.declared.point.Point.{Point}
use Rattle.ice_decode.specs.declared.point.Point.TheVariants.{Wire, Carry}
use Rattle.ice_decode.specs.declared.driver.Driver.{Driver}
use Rattle.ice_decode.specs.declared.driver.Driver.TheVariants.{Nothing, By, Several}
use Rattle.ice_decode.specs.declared.role.Role.{Role}
use Rattle.ice_decode.specs.declared.role.Role.TheVariants.{Plain, Output, LookUp, CarryOut, PadInput, RamOutput, Global, CarryIn, ClockEnable}
use Rattle.ice_decode.specs.Cells.{logic_tiles, tile_place, has_carry, has_flop, table_entry}
use Rattle.ice_decode.specs.Direct.{globals, takes_pad}
use Rattle.ice_decode.specs.Drivers.{driver, role_of}
use Rattle.ice_decode.specs.Meaning.{passes}
use Rattle.ice_decode.specs.Pads.{is_enabled, has_input_register, has_output_register}
use Rattle.ice_decode.specs.Reads.{global_feed, count_points}
pub use Rattle.ice_back_laws.specs.declared.root.LevelRoot.{LevelRoot}
pub use Rattle.ice_back_laws.specs.declared.root.LevelRoot.TheVariants.{Fixed, Input, Taken, Given, Kept, Level, Table, Register, Sum}

-- ---- what is made in a tile
-- the table of a cell, by the order of its entries in a look-up table
abbrev pub cell_table : Parts → Bits → TileAt → ℕ → ℕ
cell_table parts bits t i =
    number_of (map (table_entry parts bits t i) (0 ∷ 1 ∷ 2 ∷ 3 ∷ 4 ∷ 5 ∷ 6 ∷ 7 ∷ 8 ∷ 9 ∷ 10 ∷ 11 ∷ 12 ∷ 13 ∷ 14 ∷ 15 ∷ []))

-- a cell whose table has no bit gives 0
abbrev pub table_root : Parts → Bits → TileAt → ℕ → LevelRoot
table_root parts bits t i = if cell_table parts bits t i == 0 then Fixed false else Table t i

abbrev pub carry_root : Parts → Bits → TileAt → ℕ → LevelRoot
carry_root parts bits t i = if has_carry parts bits t i then Sum t i else Fixed false

-- ---- what is at a pad
-- a cell or a pad reads a wire that has this name
abbrev pub is_reading_name : PlacedName → Bool
is_reading_name n = is_input_name Io n.name || is_input_name Logic n.name

-- the row that drives a wire leads from this one
abbrev pub leads_from : ℕ → Driver → Bool
leads_from w Nothing = false
leads_from w (By s) = s.source.0 == w
leads_from w (Several first second) = false

-- something reads the wire: a row that drives a wire, or a cell or a pad by another name of the wire, which no usual database gives it
abbrev pub is_heard_at : Parts → Bits → Option ℕ → Bool
is_heard_at parts bits None = false
is_heard_at parts bits (Some w) = list_any (leads_from w) (map (driver parts bits) (range_with_len 0 parts.wires)) || list_any is_reading_name (names_of parts w)

-- something reads the pad's wire
abbrev pub is_heard : Parts → Bits → Pad → Bool
is_heard parts bits pad = is_heard_at parts bits (wire_named parts pad.tile (pad_input_name pad.pio))

-- the netlist has the register that takes what the pad gives: the pad has it, and something reads it
abbrev pub is_registered : Parts → Bits → Pad → Bool
is_registered parts bits pad = has_input_register parts bits pad && is_heard parts bits pad

-- the pad is the one that can feed a global
abbrev pub is_feeder : Pad → Option Pad → Bool
is_feeder pad None = false
is_feeder pad (Some p) = same_pad p pad

-- the pad's level is on some global
abbrev pub feeds_global : Parts → Bits → List (ℕ × ℕ × ℕ) → Pad → Bool
feeds_global parts bits extras pad = is_enabled parts bits pad && list_any (λ n. takes_pad parts extras n && is_feeder pad (gbufpin_of parts n)) globals

-- ---- pads of a package
-- the number of a pad among these
abbrev pub pad_number : Pad → List Pad → Option ℕ
pad_number pad [] = None
pad_number pad (p ∷ pads) = if same_pad p pad then Some 0 else option_map suc (pad_number pad pads)

-- the pad of a number
abbrev pub no_pad : Pad
no_pad = record { tile = record { x = 0; y = 0 }; pio = 0 }

abbrev pub pad_at : List Pad → ℕ → Pad
pad_at bonded k = slice_index_or bonded k no_pad

-- the root of a sort for the pad of a number; a pad outside the package gives 0
abbrev pub bonded_root : (ℕ → LevelRoot) → Option ℕ → LevelRoot
bonded_root sort None = Fixed false
bonded_root sort (Some k) = sort k

-- and so does one whose input buffer is not enabled
abbrev pub enabled_root : Parts → Bits → List Pad → (ℕ → LevelRoot) → Pad → LevelRoot
enabled_root parts bits bonded sort pad = if is_enabled parts bits pad then bonded_root sort (pad_number pad bonded) else Fixed false

-- the root of the wire of a pad: what the pad gives, or what its register kept of that
abbrev pub pad_root : Parts → Bits → List Pad → Pad → LevelRoot
pad_root parts bits bonded pad = if has_input_register parts bits pad then enabled_root parts bits bonded Taken pad else enabled_root parts bits bonded Input pad

-- the root of a global that has the level of a pad
abbrev pub fed_root : Parts → Bits → List Pad → Option Pad → LevelRoot
fed_root parts bits bonded None = Fixed false
fed_root parts bits bonded (Some pad) = enabled_root parts bits bonded Level pad

-- ---- what passes a level on
-- what passes its level to a wire without a row that is on
abbrev pub role_passes : Parts → List (ℕ × ℕ × ℕ) → Role → List (Option Point)
role_passes parts extras Plain = []
role_passes parts extras (Output t i) = []
role_passes parts extras (LookUp t i) = []
role_passes parts extras (CarryOut t i) = []
role_passes parts extras (PadInput pad) = []
role_passes parts extras (RamOutput pad) = []
role_passes parts extras (Global n) = if takes_pad parts extras n then [] else global_feed parts n ∷ []
role_passes parts extras (CarryIn t) = []
role_passes parts extras ClockEnable = []

-- and to a wire, by what drives it: nothing where a column buffer is off
abbrev pub driven_passes : Parts → Bits → List (ℕ × ℕ × ℕ) → Role → Driver → List (Option Point)
driven_passes parts bits extras r Nothing = role_passes parts extras r
driven_passes parts bits extras r (By s) = if passes parts bits s then Some (Wire s.source) ∷ [] else []
driven_passes parts bits extras r (Several first second) = []

abbrev pub point_passes : Parts → Bits → List (ℕ × ℕ × ℕ) → Point → List (Option Point)
point_passes parts bits extras (Wire w) = driven_passes parts bits extras (role_of parts w.0) (driver parts bits w.0)
point_passes parts bits extras (Carry t i) = []

-- ---- the root of a point
abbrev pub first_root : List LevelRoot → LevelRoot
first_root roots = slice_index_or roots 0 (Fixed false)

-- the root of a wire without a row that is on, by the root of what passes its level on
abbrev pub role_root : Parts → Bits → List (ℕ × ℕ × ℕ) → List Pad → Role → List LevelRoot → LevelRoot
role_root parts bits extras bonded Plain from = Fixed false
role_root parts bits extras bonded (Output t i) from = if has_flop parts bits t i then Register t i else table_root parts bits t i
role_root parts bits extras bonded (LookUp t i) from = table_root parts bits t i
role_root parts bits extras bonded (CarryOut t i) from = carry_root parts bits t i
role_root parts bits extras bonded (PadInput pad) from = pad_root parts bits bonded pad
role_root parts bits extras bonded (RamOutput pad) from = Fixed false
role_root parts bits extras bonded (Global n) from = if takes_pad parts extras n then fed_root parts bits bonded (gbufpin_of parts n) else first_root from
role_root parts bits extras bonded (CarryIn t) from = Fixed (set_at parts bits t (codes "CarryInSet") 0)
role_root parts bits extras bonded ClockEnable from = Fixed true

abbrev pub driven_root : Parts → Bits → List (ℕ × ℕ × ℕ) → List Pad → Role → Driver → List LevelRoot → LevelRoot
driven_root parts bits extras bonded r Nothing from = role_root parts bits extras bonded r from
driven_root parts bits extras bonded r (By s) from = first_root from
driven_root parts bits extras bonded r (Several first second) from = Fixed false

abbrev pub point_root : Parts → Bits → List (ℕ × ℕ × ℕ) → List Pad → Point → List LevelRoot → LevelRoot
point_root parts bits extras bonded (Wire w) from = driven_root parts bits extras bonded (role_of parts w.0) (driver parts bits w.0) from
point_root parts bits extras bonded (Carry t i) from = carry_root parts bits t i

-- the points of the chip with the roots of their levels: the system in which each point has the root of what passes its level on
abbrev pub roots_of : Parts → Bits → List (ℕ × ℕ × ℕ) → List Pad → System Point LevelRoot
roots_of parts bits extras bonded = gapped (point_passes parts bits extras) (Fixed false) (point_root parts bits extras bonded)

-- the root of a point
abbrev pub root_of : Parts → Bits → List (ℕ × ℕ × ℕ) → List Pad → Point → LevelRoot
root_of parts bits extras bonded p = unwrap_or (value (roots_of parts bits extras bonded) (count_points parts + 1) p) (Fixed false)

-- ---- roots that are there
-- a cell of the chip, with the place of its tile
abbrev pub StandsAt : Parts → TileAt → ℕ → Type 0
StandsAt parts t i = (k : ℕ) × (tile_place t (logic_tiles parts) ≡ Some k) × (i < 8)

-- what makes a root's level is in the netlist
abbrev pub IsThere : Parts → Bits → List (ℕ × ℕ × ℕ) → List Pad → LevelRoot → Type 0
IsThere parts bits extras bonded (Fixed level) = Unit {0}
IsThere parts bits extras bonded (Input k) = (k < length bonded) × (is_registered parts bits (pad_at bonded k) ≡ false)
IsThere parts bits extras bonded (Taken k) = (k < length bonded) × (is_registered parts bits (pad_at bonded k) ≡ true)
IsThere parts bits extras bonded (Given k) = (k < length bonded) × (is_registered parts bits (pad_at bonded k) ≡ true)
IsThere parts bits extras bonded (Kept k) = (k < length bonded) × (has_output_register parts bits (pad_at bonded k) ≡ true)
IsThere parts bits extras bonded (Level k) = (k < length bonded) × (feeds_global parts bits extras (pad_at bonded k) ≡ true)
IsThere parts bits extras bonded (Table t i) = StandsAt parts t i × ((cell_table parts bits t i == 0) ≡ false)
IsThere parts bits extras bonded (Register t i) = StandsAt parts t i × (has_flop parts bits t i ≡ true)
IsThere parts bits extras bonded (Sum t i) = StandsAt parts t i × (has_carry parts bits t i ≡ true)

-- the signal of the root is among those of the netlist, whether something makes its level or not
abbrev pub IsNumbered : Parts → List Pad → LevelRoot → Type 0
IsNumbered parts bonded (Fixed level) = Unit {0}
IsNumbered parts bonded (Input k) = k < length bonded
IsNumbered parts bonded (Taken k) = k < length bonded
IsNumbered parts bonded (Given k) = k < length bonded
IsNumbered parts bonded (Kept k) = k < length bonded
IsNumbered parts bonded (Level k) = k < length bonded
IsNumbered parts bonded (Table t i) = StandsAt parts t i
IsNumbered parts bonded (Register t i) = StandsAt parts t i
IsNumbered parts bonded (Sum t i) = StandsAt parts t i
