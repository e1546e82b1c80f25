-- The pads of a chip: their levels, what they give to the chip, how they are driven, and what their registers and the cells' flip-flops keep.
use Rattle.std.specs.Prelude.{ℕ, ◌==◌, ◌&&◌, not, Bool, true, false, Option, None, Some, List, [], ◌∷◌, map, filter, if◌then◌else◌, ◌+◌, ◌*◌, ◌/◌, ◌%◌, ◌++◌, length, option_map, slice_index_or}
use Rattle.std.specs.List.{flat_map}
use Rattle.ice_base.specs.declared.number.TileAt.{TileAt}
use Rattle.ice_chip.specs.Database.{Parts, same_pad}
use Rattle.ice_chip.specs.Lookups.{ieren_of, is_io_kind}
use Rattle.ice_chip.specs.declared.rows.Pad.{Pad}
use Rattle.ice_chip.specs.declared.rows.TileLine.{TileLine}
use Rattle.ice_bits.specs.Configuration.{Bits}
use Rattle.ice_bits.specs.Settings.{set_at}
use Rattle.ice_base_values.specs.System.{reading}
use Rattle.ice_net.specs.declared.driver.Drive.{Drive}
use Rattle.ice_net.specs.declared.driver.Drive.TheVariants.{Off}
use Rattle.ice_net.specs.Drives.{level_drive}
use Rattle.ice_net.specs.Meaning.{number_of}
use Rattle.ice_decode.specs.declared.point.Point.{Point}
use Rattle.ice_chip.specs.Names.{pin_type_function, input_enable_function}
use Rattle.ice_decode.specs.Reads.{at_pin}
use Rattle.std.specs.Option.{option_map_or}
use Rattle.ice_decode.specs.Cells.{cells, logic_tiles, tile_place}

-- ---- the pads of a chip
abbrev pub pads_in : TileAt → List Pad
pads_in t = (record { tile = t; pio = 0 }) ∷ (record { tile = t; pio = 1 }) ∷ []

abbrev pub is_io_tile : TileAt × TileLine → Bool
is_io_tile tile = is_io_kind tile.1.kind

-- the IO tiles in the order of the database
abbrev pub io_tiles : Parts → List TileAt
io_tiles parts = map (λ (tile : TileAt × TileLine). tile.0) (filter is_io_tile parts.tiles)

-- the two pads of each IO tile, in the order of the database
abbrev pub pads : Parts → List Pad
pads parts = flat_map (λ (tile : TileAt × TileLine). pads_in tile.0) (filter is_io_tile parts.tiles)

-- ---- levels
-- The level of a pad in a step, whose levels are those of the package's pads in order. A pad outside the package has the level 0.
abbrev pub level_of : List Pad → List Bool → Pad → Bool
level_of (p ∷ bonded) (x ∷ levels) pad = if same_pad p pad then x else level_of bonded levels pad
level_of bonded levels pad = false

-- the input buffer of a pad is enabled: by a bit that is 0, in the tile that the database names, or always where it names none
abbrev pub is_enabled_by : Parts → Bits → Option Pad → Bool
is_enabled_by parts bits None = true
is_enabled_by parts bits (Some enable) = not (set_at parts bits enable.tile (input_enable_function enable.pio) 0)

abbrev pub is_enabled : Parts → Bits → Pad → Bool
is_enabled parts bits pad = is_enabled_by parts bits (ieren_of parts pad)

-- what a pad gives to the chip: to its wire, to its register or to a global
abbrev pub pad_gives : Parts → Bits → List Pad → List Bool → Pad → Bool
pad_gives parts bits bonded levels pad = is_enabled parts bits pad && level_of bonded levels pad

-- ---- drives
-- the digit of a pad's pin type, of which there are six
abbrev pub pin_type_digit : Parts → Bits → Pad → ℕ → Bool
pin_type_digit parts bits pad k = set_at parts bits pad.tile (pin_type_function pad.pio k) 0

-- The pin type of a pad, as for an SB_IO: its upper four digits are the output part, and its lower two the input part. A pad at a
-- place that has no IO tile has the type 0.
abbrev pub pin_type : Parts → Bits → Pad → ℕ
pin_type parts bits pad = number_of (map (pin_type_digit parts bits pad) (0 ∷ 1 ∷ 2 ∷ 3 ∷ 4 ∷ 5 ∷ []))

-- the level at a pin of a tile, by the levels of points; one that has no wire reads `bare`
abbrev pub pin_level : Bool → Parts → (Point → Bool) → TileAt → List ℕ → Bool
pin_level bare parts v t name = reading bare v (at_pin parts t name)

-- what the chip drives with these levels at D_OUT_0 and OUT_ENB and with the level that the pad's register keeps, by the output part: 0101
-- drives what is kept, 0110 drives the level, 1010 drives it where enabled, and every other part is off
abbrev pub part_drive : ℕ → Bool → Bool → Bool → Drive
part_drive part level enable kept =
    if part == 5 then level_drive kept
    else (if part == 6 then level_drive level else (if part == 10 then (if enable then level_drive level else Off) else Off))

-- ---- stores
-- the flip-flop of a cell, the register that takes what a pad gives, and the one that a pad is driven with
pub data Store : Type 0 where
  CellStore : TileAt → ℕ → Store
  InputStore : Pad → Store
  OutputStore : Pad → Store

abbrev pub cell_store : TileAt × ℕ → Store
cell_store c = CellStore c.0 c.1

abbrev pub pad_stores : Pad → List Store
pad_stores pad = InputStore pad ∷ OutputStore pad ∷ []

-- those of all logic cells, and behind them those of all pads
abbrev pub stores : Parts → List Store
stores parts = map cell_store (cells parts) ++ flat_map pad_stores (pads parts)

-- ---- what is kept, where `kept` has the levels of all stores in order
-- the level that the flip-flop of a cell keeps
abbrev pub kept_at : Parts → List Bool → TileAt → ℕ → Bool
kept_at parts kept t i = option_map_or (λ k. slice_index_or kept (8 * k + i) false) (tile_place t (logic_tiles parts)) false

-- the place of the first register of a pad; that of the second is the next
abbrev pub register_place : Parts → Pad → Option ℕ
register_place parts pad = option_map (λ k. length (cells parts) + (4 * k + 2 * pad.pio)) (tile_place pad.tile (io_tiles parts))

abbrev pub register_at : Parts → List Bool → Pad → ℕ → Bool
register_at parts kept pad which = option_map_or (λ k. slice_index_or kept (k + which) false) (register_place parts pad) false

-- the level that the register keeps which takes what a pad gives
abbrev pub input_kept : Parts → List Bool → Pad → Bool
input_kept parts kept pad = register_at parts kept pad 0

-- the level that the register keeps which a pad is driven with
abbrev pub output_kept : Parts → List Bool → Pad → Bool
output_kept parts kept pad = register_at parts kept pad 1

-- ---- which registers there are
-- what a pad gives goes through a register, by the lower two digits of its type
abbrev pub has_input_register : Parts → Bits → Pad → Bool
has_input_register parts bits pad = pin_type parts bits pad % 4 == 0

-- a pad drives what a register keeps, by the upper four digits of its type: 0101
abbrev pub has_output_register : Parts → Bits → Pad → Bool
has_output_register parts bits pad = pin_type parts bits pad / 4 == 5
