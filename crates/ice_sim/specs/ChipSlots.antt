-- Slots of the points of a configured chip. Slot 0 always has the level 0, and slot 1 the level 1. Every other slot belongs to what
-- has a level of its own: the input of a pad, a flip-flop, a register of a pad, a table or a carry that is in use.
use Rattle.std.specs.Prelude.{ℕ, ◌+◌, ◌*◌, ◌==◌, nat_lt, Option, None, Some, List, [], ◌∷◌, map, length, option_map, if◌then◌else◌, codes, slice_index_or, unwrap_or}
use Rattle.std.proofs.Common.{suc}
use Rattle.ice_base.specs.declared.number.TileAt.{TileAt}
use Rattle.ice_base_values.specs.System.{reading}
use Rattle.ice_chip.specs.Database.{Parts, same_pad}
use Rattle.ice_chip.specs.Lookups.{gbufpin_of}
use Rattle.ice_chip.specs.declared.rows.Pad.{Pad}
use Rattle.ice_bits.specs.Configuration.{Bits}
use Rattle.ice_bits.specs.Settings.{set_at}
use Rattle.ice_net.specs.Meaning.{number_of}
use Rattle.ice_decode.specs.declared.point.Point.{Point}
use Rattle.ice_decode.specs.declared.point.Point.TheVariants.{Wire, Carry}
use Rattle.ice_decode.specs.declared.driver.Driver.{Driver}
use Rattle.ice_decode.specs.declared.driver.Driver.TheVariants as driver
use Rattle.ice_decode.specs.declared.role.Role.{Role}
use Rattle.ice_decode.specs.declared.role.Role.TheVariants.{Plain, Output, LookUp, CarryOut, PadInput, RamOutput, Global, CarryIn, ClockEnable}
use Rattle.ice_decode.specs.Drivers.{role_of, driver as driver_of}
use Rattle.ice_decode.specs.Cells.{logic_tiles, tile_place, has_carry, has_flop, table_entry}
use Rattle.ice_decode.specs.Direct.{takes_pad}
use Rattle.ice_decode.specs.Reads.{at_pin, cell_inputs, carry_inputs, global_feed}
use Rattle.ice_decode.specs.Pads.{is_enabled, stores, register_place, has_input_register}
use Rattle.ice_decode.specs.Meaning.{passes}
use Rattle.ice_sim_sweep.specs.declared.parts.Gate.{Gate}
use Rattle.ice_sim_sweep.specs.declared.parts.Feed.{Feed}
use Rattle.ice_sim_sweep.specs.declared.parts.Feed.TheVariants.{Nothing, Port as FromPort, Kept, Made}
use Rattle.ice_sim.specs.declared.points.PointSlot.{PointSlot}
use Rattle.ice_sim.specs.declared.points.PointSlot.TheVariants.{Shared, Own}
use Rattle.ice_sim_sweep.specs.Feeds.{majority_table}

-- ---- numbers of points: wires have theirs, and behind them stand the carries of the logic cells
-- the place of a cell among the logic cells
abbrev pub cell_place : Parts → TileAt → ℕ → Option ℕ
cell_place parts t i = option_map (λ k. 8 * k + i) (tile_place t (logic_tiles parts))

abbrev pub number : Parts → Point → ℕ
number parts (Wire w) = w.0
number parts (Carry t i) = parts.wires + unwrap_or (cell_place parts t i) 0

-- the slot of a point, where `slots` has those of all points by their numbers
abbrev pub slot_in : Parts → List ℕ → Point → ℕ
slot_in parts slots p = slice_index_or slots (number parts p) 0

-- the slots that inputs read: that of the point that an input is connected to, or slot 0
abbrev pub slots_read : Parts → List ℕ → List (Option Point) → List ℕ
slots_read parts slots inputs = map (reading 0 (slot_in parts slots)) inputs

-- the slot of the wire of a name in a tile, or `bare` where none has it
abbrev pub pin_slot : ℕ → Parts → List ℕ → TileAt → List ℕ → ℕ
pin_slot bare parts slots t name = reading bare (slot_in parts slots) (at_pin parts t name)

-- ---- tables
abbrev pub sixteen : List ℕ
sixteen = 0 ∷ 1 ∷ 2 ∷ 3 ∷ 4 ∷ 5 ∷ 6 ∷ 7 ∷ 8 ∷ 9 ∷ 10 ∷ 11 ∷ 12 ∷ 13 ∷ 14 ∷ 15 ∷ []

-- the table of a cell as a number, of which entry j is the bit j
abbrev pub table_of : Parts → Bits → TileAt → ℕ → ℕ
table_of parts bits t i = number_of (map (table_entry parts bits t i) sixteen)

-- a table over slots; behind the inputs of one that has fewer than four stands slot 0
abbrev pub slots_gate : ℕ → List ℕ → ℕ → Gate
slots_gate table ins out = record {
  table = table;
  first = slice_index_or ins 0 0;
  second = slice_index_or ins 1 0;
  third = slice_index_or ins 2 0;
  fourth = slice_index_or ins 3 0;
  out = out;
}

abbrev pub cell_gate : Parts → Bits → List ℕ → ℕ → TileAt → ℕ → Gate
cell_gate parts bits slots out t i = slots_gate (table_of parts bits t i) (slots_read parts slots (cell_inputs parts t i)) out

abbrev pub carry_gate : Parts → List ℕ → ℕ → TileAt → ℕ → Gate
carry_gate parts slots out t i = slots_gate majority_table (slots_read parts slots (carry_inputs parts t i)) out

-- ---- the slot of a point. In the definitions below `next` is the number of the next slot.
-- a table that is always 0 needs no slot
abbrev pub table_slot : Parts → Bits → List ℕ → ℕ → TileAt → ℕ → PointSlot
table_slot parts bits slots next t i = if table_of parts bits t i == 0 then Shared 0 else Own (Made (cell_gate parts bits slots next t i))

-- the place of a pad among those that have levels
abbrev pub pad_place : List Pad → Pad → Option ℕ
pad_place [] pad = None
pad_place (p ∷ bonded) pad = if same_pad p pad then Some 0 else option_map suc (pad_place bonded pad)

-- a pad that isn't among those with levels has no level of its own, nor one whose input buffer is off
abbrev pub level_slot : Option ℕ → PointSlot
level_slot None = Shared 0
level_slot (Some k) = Own (FromPort k)

abbrev pub pad_slot : Parts → Bits → List Pad → Pad → PointSlot
pad_slot parts bits bonded pad = if is_enabled parts bits pad then level_slot (pad_place bonded pad) else Shared 0

-- the level of the pad that feeds a global; 0 where no row of the database names one
abbrev pub fed_slot : Parts → Bits → List Pad → Option Pad → PointSlot
fed_slot parts bits bonded None = Shared 0
fed_slot parts bits bonded (Some pad) = pad_slot parts bits bonded pad

-- what a register of a pad keeps, where the pad's first has this place among so many stores; nothing where it isn't one of them
abbrev pub register_feed : ℕ → Option ℕ → ℕ → Feed
register_feed count None which = Nothing
register_feed count (Some k) which = if nat_lt (k + which) count then Kept (k + which) else Nothing

abbrev pub pad_register : Parts → Pad → ℕ → Feed
pad_register parts pad which = register_feed (length (stores parts)) (register_place parts pad) which

-- what the flip-flop of the cell at a place keeps
abbrev pub kept_slot : Option ℕ → PointSlot
kept_slot None = Shared 0
kept_slot (Some c) = Own (Kept c)

-- a wire without a row that is on, by its role
abbrev pub role_slot : Parts → Bits → List (ℕ × ℕ × ℕ) → List Pad → List ℕ → ℕ → Role → PointSlot
role_slot parts bits extras bonded slots next Plain = Shared 0
role_slot parts bits extras bonded slots next (Output t i) = if has_flop parts bits t i then kept_slot (cell_place parts t i) else table_slot parts bits slots next t i
role_slot parts bits extras bonded slots next (LookUp t i) = table_slot parts bits slots next t i
role_slot parts bits extras bonded slots next (CarryOut t i) = Shared (slot_in parts slots (Carry t i))
role_slot parts bits extras bonded slots next (PadInput pad) = if has_input_register parts bits pad then Own (pad_register parts pad 0) else pad_slot parts bits bonded pad
role_slot parts bits extras bonded slots next (RamOutput pad) = level_slot (pad_place bonded pad)
role_slot parts bits extras bonded slots next (Global n) =
    if takes_pad parts extras n then fed_slot parts bits bonded (gbufpin_of parts n) else Shared (reading 0 (slot_in parts slots) (global_feed parts n))
role_slot parts bits extras bonded slots next (CarryIn t) = Shared (if set_at parts bits t (codes "CarryInSet") 0 then 1 else 0)
role_slot parts bits extras bonded slots next ClockEnable = Shared 1

-- a wire, by what drives it: behind a row that is on it shares the source's slot
abbrev pub driven_slot : Parts → Bits → List (ℕ × ℕ × ℕ) → List Pad → List ℕ → ℕ → Role → Driver → PointSlot
driven_slot parts bits extras bonded slots next role driver.Nothing = role_slot parts bits extras bonded slots next role
driven_slot parts bits extras bonded slots next role (driver.By s) = Shared (if passes parts bits s then slot_in parts slots (Wire s.source) else 0)
driven_slot parts bits extras bonded slots next role (driver.Several first second) = Shared 0

-- a point, where `slots` has those of the points that it reads
abbrev pub point_slot : Parts → Bits → List (ℕ × ℕ × ℕ) → List Pad → List ℕ → ℕ → Point → PointSlot
point_slot parts bits extras bonded slots next (Wire w) = driven_slot parts bits extras bonded slots next (role_of parts w.0) (driver_of parts bits w.0)
point_slot parts bits extras bonded slots next (Carry t i) = if has_carry parts bits t i then Own (Made (carry_gate parts slots next t i)) else Shared 0
