-- A small chip: an IO tile beside a logic tile, in which one carry leads from cell to cell.
use Rattle.std.specs.Prelude.{◌≡◌, ℕ, ◌+◌, ◌*◌, Bool, true, false, None, Some, List, [], ◌∷◌, ◌++◌, map, option_map, slice_get, codes}
use Rattle.std.specs.List.{range_with_len}
use Rattle.ice_base.specs.declared.number.TileAt.{TileAt}
use Rattle.ice_base.specs.declared.bit.BitAt.{BitAt}
use Rattle.ice_chip.specs.Database.{Parts, FunctionRow, WireName, SwitchGroup, SwitchRow}
use Rattle.ice_chip.specs.Names.{cell_function, falling_clock_function, pin_type_function, input_enable_function, column_buffer_function}
use Rattle.ice_chip.specs.FunctionNames.{carry_set_function, pull_up_function}
use Rattle.ice_chip.specs.Lookups.{wire_named, names_of, placed_at, global_of, ieren_of, colbuf_of}
use Rattle.ice_chip.specs.Listings.{rows_of}
use Rattle.ice_chip.specs.declared.rows.Pad.{Pad}
use Rattle.ice_chip.specs.declared.rows.TileKind.{TileKind}
use Rattle.ice_chip.specs.declared.rows.TileKind.TheVariants.{Io, Logic}
use Rattle.ice_chip_laws.specs.Bits.{function_place, function_at}
use Rattle.ice_chip_laws.specs.Pins.{pin_of}

abbrev pub io_place : TileAt
io_place = record { x = 0; y = 0 }

abbrev pub logic_place : TileAt
logic_place = record { x = 1; y = 0 }

abbrev pub bit : ℕ → ℕ → BitAt
bit row col = record { row = row; col = col }

-- ---- functions
abbrev pub one_bit : TileKind → List ℕ → ℕ → ℕ → FunctionRow
one_bit kind name row col = record { kind = kind; name = name; bits = bit row col ∷ []; line = 0 }

-- two pads: the bits of an IO tile's functions stand in its last column, one in each row
abbrev pub type_rows : ℕ → List FunctionRow
type_rows pio = map (λ place. one_bit Io (pin_type_function pio place) (6 * pio + place) 17) (range_with_len 0 6)

abbrev pub enable_rows : ℕ → List FunctionRow
enable_rows pio = one_bit Io (input_enable_function pio) (12 + 2 * pio) 17 ∷ one_bit Io (pull_up_function pio) (13 + 2 * pio) 17 ∷ []

abbrev pub pad_functions : List FunctionRow
pad_functions = type_rows 0 ++ type_rows 1 ++ enable_rows 0 ++ enable_rows 1

-- ten bits of a row, from column 36 on
abbrev pub ten_bits : ℕ → List BitAt
ten_bits row = map (λ k. bit row (36 + k)) (range_with_len 0 10)

-- a cell has two rows of ten bits
abbrev pub cell_row : ℕ → FunctionRow
cell_row cell = record { kind = Logic; name = cell_function cell; bits = ten_bits (2 * cell) ++ ten_bits (2 * cell + 1); line = 0 }

abbrev pub buffer_row : ℕ → FunctionRow
buffer_row n = one_bit Logic (column_buffer_function n) n 1

abbrev pub logic_functions : List FunctionRow
logic_functions = map cell_row (range_with_len 0 8) ++ one_bit Logic falling_clock_function 0 0 ∷ one_bit Logic carry_set_function 1 49 ∷ map buffer_row (range_with_len 0 8)

-- ---- wires
abbrev pub named : ℕ → TileAt → List ℕ → WireName
named wire tile name = record { wire = wire; tile = tile; name = name; line = 0 }

-- the last name stands at a place without a tile, and has no effect
abbrev pub wire_names : List WireName
wire_names =
    named 0 io_place (codes "io_0/D_IN_0") ∷ named 1 io_place (codes "io_0/D_OUT_0")
    ∷ named 2 io_place (codes "there") ∷ named 2 logic_place (codes "there")
    ∷ named 3 logic_place (codes "lutff_0/in_1") ∷ named 4 logic_place (codes "lutff_0/cout")
    ∷ named 5 logic_place (codes "lutff_1/in_3") ∷ named 6 logic_place (codes "lutff_1/out") ∷ named 6 io_place (codes "back")
    ∷ named 7 io_place (codes "glb_netwk_0") ∷ named 7 logic_place (codes "glb_netwk_0")
    ∷ named 8 logic_place (codes "lutff_global/clk") ∷ named 8 (record { x = 1; y = 1 }) (codes "lutff_0/in_0") ∷ []

-- ---- switches
abbrev pub row_from : List Bool → ℕ → SwitchRow
row_from values source = record { values = values; source = source; line = 0 }

abbrev pub group_into : TileAt → ℕ → List BitAt → ℕ → List SwitchRow → SwitchGroup
group_into tile wire bits first rows = record { tile = tile; wire = wire; bits = bits; first = first; rows = rows; line = 0 }

abbrev pub switch_groups : List SwitchGroup
switch_groups =
    group_into io_place 2 (bit 0 0 ∷ []) 0 (row_from (true ∷ []) 0 ∷ [])
    ∷ group_into logic_place 3 (bit 2 14 ∷ bit 3 14 ∷ []) 1 (row_from (true ∷ false ∷ []) 2 ∷ row_from (false ∷ true ∷ []) 6 ∷ [])
    ∷ group_into logic_place 5 (bit 4 14 ∷ []) 3 (row_from (true ∷ []) 4 ∷ [])
    ∷ group_into logic_place 8 (bit 5 14 ∷ []) 4 (row_from (true ∷ []) 7 ∷ [])
    ∷ group_into io_place 1 (bit 1 0 ∷ []) 5 (row_from (true ∷ []) 6 ∷ []) ∷ []

-- ---- the chip
abbrev pub first_pad : Pad
first_pad = record { tile = io_place; pio = 0 }

abbrev pub second_pad : Pad
second_pad = record { tile = io_place; pio = 1 }

abbrev pub example : Parts
example = record {
  width = 2;
  height = 2;
  wires = 9;
  tiles = (io_place, record { kind = Io; line = 0 }) ∷ (logic_place, record { kind = Logic; line = 0 }) ∷ [];
  functions = pad_functions ++ logic_functions;
  names = wire_names;
  groups = switch_groups;
  packages = [];
  gbufin = (io_place, 0) ∷ [];
  gbufpin = [];
  padin = [];
  ieren = (first_pad, second_pad) ∷ [];
  colbuf = (logic_place, logic_place) ∷ [];
}

-- what look-ups find in it
pub record FindsExample : Type 0 where
  pub wire : wire_named example logic_place (codes "lutff_0/in_1") ≡ Some 3
  pub other_tile : wire_named example io_place (codes "lutff_0/in_1") ≡ None
  pub no_tile : wire_named example (record { x = 1; y = 1 }) (codes "lutff_0/in_0") ≡ None
  pub two_names : names_of example 2 ≡ placed_at io_place (codes "there") ∷ placed_at logic_place (codes "there") ∷ []
  pub pin : pin_of example 6 ≡ Some (placed_at logic_place (codes "lutff_1/out"))
  pub no_pin : pin_of example 2 ≡ None
  pub global : pin_of example 7 ≡ Some (placed_at io_place (codes "glb_netwk_0"))
  pub place : function_place example Logic (codes "LC_3") 12 ≡ Some (bit 7 38)
  pub no_place : function_place example Logic (codes "LC_3") 20 ≡ None
  pub function : function_at example Logic (bit 7 38) ≡ Some (codes "LC_3", 12)
  pub no_function : function_at example Logic (bit 2 14) ≡ None
  pub source : option_map (λ (row : SwitchGroup × SwitchRow). row.1.source) (slice_get (rows_of example.groups) 2) ≡ Some 6
  pub target : option_map (λ (row : SwitchGroup × SwitchRow). row.0.wire) (slice_get (rows_of example.groups) 3) ≡ Some 5
  pub enable : ieren_of example first_pad ≡ Some second_pad
  pub buffers : colbuf_of example logic_place ≡ Some logic_place
  pub no_buffers : colbuf_of example io_place ≡ None
  pub feeder : global_of example 0 ≡ Some io_place
