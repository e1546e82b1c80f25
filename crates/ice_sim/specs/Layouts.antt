-- What a configured chip is compiled to: the slots of its points and what feeds them, its flip-flops and registers, and what its pads
-- drive.
use Rattle.std.specs.Prelude.{ℕ, ◌+◌, ◌-◌, ◌<◌, ◌/◌, ◌==◌, nat_lt, Bool, false, Option, None, Some, List, [], ◌∷◌, ◌++◌, length, replicate, slice_set, if◌then◌else◌, codes}
use Rattle.std.proofs.Common.{suc}
use Rattle.ice_base.specs.declared.number.TileAt.{TileAt}
use Rattle.ice_chip.specs.Database.{Parts}
use Rattle.ice_chip.specs.declared.rows.Pad.{Pad}
use Rattle.ice_bits.specs.Configuration.{Bits}
use Rattle.ice_bits.specs.Settings.{set_at}
use Rattle.ice_net.specs.declared.kind.Reset.TheVariants as reset
use Rattle.ice_decode.specs.declared.point.Point.{Point}
use Rattle.ice_chip.specs.Names.{pad_output_name, output_enable_name, input_clock_name, output_clock_name, in_out_enable_name}
use Rattle.ice_chip.specs.RamNames.{ram_name}
use Rattle.ice_decode.specs.Cells.{has_flop, reset_of}
use Rattle.ice_decode.specs.Reads.{count_points}
use Rattle.ice_decode.specs.Pads.{is_enabled, pin_type, Store, CellStore, InputStore, OutputStore, cell_store, has_input_register, has_output_register}
use Rattle.ice_decode.specs.Points.{HasWire}
use Rattle.ice_sim_sweep.specs.declared.parts.Tap.{Tap}
use Rattle.ice_sim_sweep.specs.declared.parts.Keeper.{Keeper}
use Rattle.ice_sim_sweep.specs.declared.parts.Feed.{Feed}
use Rattle.ice_sim_sweep.specs.declared.parts.Feed.TheVariants.{Nothing, Port as FromPort, Made}
use Rattle.ice_sim.specs.declared.points.PointSlot.{PointSlot}
use Rattle.ice_sim.specs.declared.points.PointSlot.TheVariants.{Shared, Own}
use Rattle.ice_sim.specs.ChipSlots.{number, pin_slot, slots_gate, cell_gate, point_slot, pad_place, pad_register}

-- ---- points
-- the slot of each point by its number, and what feeds each slot
pub record Layout : Type 0 where
  pub slots : List ℕ
  pub feeds : List Feed

abbrev pub layout_of : List ℕ → List Feed → Layout
layout_of slots feeds = record { slots = slots; feeds = feeds }

-- a point whose number is below so many, and which is a wire of the chip or a carry
pub record IsPointBelow (parts : Parts) (count : ℕ) (p : Point) : Type 0 where
  pub wire : HasWire parts p
  pub below : number parts p < count

-- the layout with the slot of one more point
abbrev pub placed : PointSlot → ℕ → Layout → Layout
placed (Shared s) n l = record { slots = slice_set l.slots n s; feeds = l.feeds }
placed (Own feed) n l = record { slots = slice_set l.slots n (length l.feeds); feeds = l.feeds ++ feed ∷ [] }

-- the layout with the slots of these points, one after another
abbrev pub laid : Parts → Bits → List (ℕ × ℕ × ℕ) → List Pad → List Point → Layout → Layout
laid parts bits extras bonded [] l = l
laid parts bits extras bonded (p ∷ points) l =
    laid parts bits extras bonded points (placed (point_slot parts bits extras bonded l.slots (length l.feeds) p) (number parts p) l)

-- slot 0, which nothing feeds, and slot 1, which a table of ones makes
abbrev pub ones_table : ℕ
ones_table = 65535

abbrev pub constant_feeds : List Feed
constant_feeds = Nothing ∷ Made (slots_gate ones_table [] 1) ∷ []

-- a layout before its first point
abbrev pub bare_layout : Parts → Layout
bare_layout parts = record { slots = replicate (count_points parts) 0; feeds = constant_feeds }

-- ---- what keeps levels
-- the flip-flop of the cell at place c, whose table has the slot `datum`. What has no wire reads 0, but an enable 1.
abbrev pub keeper_of : Parts → Bits → List ℕ → ℕ → ℕ → TileAt × ℕ → Keeper
keeper_of parts bits slots c datum cell = record {
  cell = c;
  clock = pin_slot 0 parts slots cell.0 (codes "lutff_global/clk");
  datum = datum;
  enable = pin_slot 1 parts slots cell.0 (codes "lutff_global/cen");
  set = pin_slot 0 parts slots cell.0 (codes "lutff_global/s_r");
  falling = set_at parts bits cell.0 (codes "NegClk") 0;
  reset = reset_of parts bits cell.0 cell.1;
}

-- a register of a pad of a tile, at place c among the stores, whose clock has this name and whose datum this slot
abbrev pub register_of : Parts → List ℕ → ℕ → ℕ → TileAt → List ℕ → Keeper
register_of parts slots c datum t clock_name = record {
  cell = c;
  clock = pin_slot 0 parts slots t clock_name;
  datum = datum;
  enable = pin_slot 1 parts slots t in_out_enable_name;
  set = 0;
  falling = false;
  reset = reset.Nothing;
}

-- the store of a cell, in the form of a loop over cells
abbrev pub cell_stores : TileAt × ℕ → List Store
cell_stores c = cell_store c ∷ []

-- the bits use the store
abbrev pub is_used : Parts → Bits → Store → Bool
is_used parts bits (CellStore t i) = has_flop parts bits t i
is_used parts bits (InputStore pad) = has_input_register parts bits pad
is_used parts bits (OutputStore pad) = has_output_register parts bits pad

-- the level at a place, if there is one
abbrev pub level_feed : Option ℕ → Feed
level_feed None = Nothing
level_feed (Some k) = FromPort k

-- what a pad gives to its register
abbrev pub input_feed : Parts → Bits → List Pad → Pad → Feed
input_feed parts bits bonded pad = if is_enabled parts bits pad then level_feed (pad_place bonded pad) else Nothing

-- the store at place c, if it is used, where `next` is the next slot
abbrev pub store_keepers : Parts → Bits → List ℕ → ℕ → ℕ → Store → List Keeper
store_keepers parts bits slots c next (CellStore t i) = if has_flop parts bits t i then keeper_of parts bits slots c next (t, i) ∷ [] else []
store_keepers parts bits slots c next (InputStore pad) = if has_input_register parts bits pad then register_of parts slots c next pad.tile input_clock_name ∷ [] else []
store_keepers parts bits slots c next (OutputStore pad) =
    if has_output_register parts bits pad then register_of parts slots c (pin_slot 0 parts slots pad.tile (pad_output_name pad.pio)) pad.tile output_clock_name ∷ [] else []

-- what feeds the slot of its own that it has for its datum: the table of a cell, or what a pad gives. The datum of the register that a pad
-- is driven with has the slot of a wire.
abbrev pub store_feeds : Parts → Bits → List Pad → List ℕ → ℕ → Store → List Feed
store_feeds parts bits bonded slots next (CellStore t i) = if has_flop parts bits t i then Made (cell_gate parts bits slots next t i) ∷ [] else []
store_feeds parts bits bonded slots next (InputStore pad) = if has_input_register parts bits pad then input_feed parts bits bonded pad ∷ [] else []
store_feeds parts bits bonded slots next (OutputStore pad) = []

-- the slot behind those of a store
abbrev pub next_slot : Parts → Bits → List Pad → List ℕ → ℕ → Store → ℕ
next_slot parts bits bonded slots next s = next + length (store_feeds parts bits bonded slots next s)

-- the stores of which the first has place c, with their slots from `next` on
abbrev pub keepers_from : Parts → Bits → List Pad → List ℕ → ℕ → ℕ → List Store → List Keeper
keepers_from parts bits bonded slots c next [] = []
keepers_from parts bits bonded slots c next (s ∷ stores) =
    store_keepers parts bits slots c next s ++ keepers_from parts bits bonded slots (suc c) (next_slot parts bits bonded slots next s) stores

-- and what feeds those slots
abbrev pub feeds_from : Parts → Bits → List Pad → List ℕ → ℕ → List Store → List Feed
feeds_from parts bits bonded slots next [] = []
feeds_from parts bits bonded slots next (s ∷ stores) =
    store_feeds parts bits bonded slots next s ++ feeds_from parts bits bonded slots (next_slot parts bits bonded slots next s) stores

-- ---- pads
-- what a pad is driven with that is driven with what a register keeps; each of the pads has a slot for it
abbrev pub output_feed : Parts → Bits → Pad → Feed
output_feed parts bits pad = if has_output_register parts bits pad then pad_register parts pad 1 else Nothing

-- what drives a pad, by its output part, where `own` is that slot
abbrev pub part_tap : ℕ → ℕ → ℕ → ℕ → Tap
part_tap part own level enable =
    if part == 5 then (record { level = own; enable = 1 })
    else (if part == 6 then (record { level = level; enable = 1 }) else (if part == 10 then (record { level = level; enable = enable }) else (record { level = 0; enable = 0 })))

abbrev pub io_tap : Parts → Bits → List ℕ → ℕ → Pad → Tap
io_tap parts bits slots own pad =
    part_tap (pin_type parts bits pad / 4) own (pin_slot 0 parts slots pad.tile (pad_output_name pad.pio)) (pin_slot 0 parts slots pad.tile (output_enable_name pad.pio))

-- the slot of whether the pin of this number of a block RAM is driven, and what drives it
abbrev pub ram_enable_slot : Parts → List ℕ → TileAt → ℕ → ℕ
ram_enable_slot parts slots t n = if n == 72 then pin_slot 1 parts slots t (ram_name 74) else (if n == 73 then pin_slot 1 parts slots t (ram_name 75) else 1)

abbrev pub ram_tap : Parts → List ℕ → TileAt → ℕ → Tap
ram_tap parts slots t n = record { level = pin_slot 0 parts slots t (ram_name n); enable = ram_enable_slot parts slots t n }

abbrev pub no_tap : Tap
no_tap = record { level = 0; enable = 0 }

abbrev pub pad_tap : Parts → Bits → List ℕ → ℕ → Pad → Tap
pad_tap parts bits slots own pad =
    if nat_lt pad.pio 2 then io_tap parts bits slots own pad else (if nat_lt pad.pio 78 then ram_tap parts slots pad.tile (pad.pio - 2) else no_tap)

-- what drives these pads, where the first has the slot `own`
abbrev pub taps_from : Parts → Bits → List ℕ → ℕ → List Pad → List Tap
taps_from parts bits slots own [] = []
taps_from parts bits slots own (pad ∷ pads) = pad_tap parts bits slots own pad ∷ taps_from parts bits slots (suc own) pads
