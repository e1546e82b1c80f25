-- The netlist of a configured chip in a package.
use Rattle.std.specs.Prelude.{ℕ, ◌+◌, ◌*◌, ◌/◌, ◌==◌, Bool, true, false, Option, Some, None, List, [], ◌∷◌, ◌++◌, map, length, if◌then◌else◌, codes}
use Rattle.std.specs.List.{flat_map, zip, range_with_len}
use Rattle.ice_base.specs.declared.number.TileAt.{TileAt}
use Rattle.ice_base.specs.declared.number.SignalNo.{SignalNo}
use Rattle.ice_chip.specs.Database.{Parts, PackageRows}
use Rattle.ice_chip.specs.Names.{pad_output_name, output_enable_name, input_clock_name, output_clock_name, in_out_enable_name}
use Rattle.ice_chip.specs.declared.rows.Pad.{Pad}
use Rattle.ice_bits.specs.Configuration.{Bits}
use Rattle.ice_bits.specs.Settings.{set_at}
use Rattle.ice_net.specs.declared.cell.Cell.{Cell}
use Rattle.ice_net.specs.declared.kind.CellKind as kinds
use Rattle.ice_net.specs.declared.kind.CellKind.{CellKind}
use Rattle.ice_net.specs.declared.kind.CellKind.TheVariants.{Lut, Cover, Flop, PadCell, Global}
use Rattle.ice_net.specs.declared.kind.Reset.TheVariants as reset
use Rattle.ice_net.specs.declared.port.Port.{Port}
use Rattle.ice_net.specs.declared.port.Way.TheVariants.{Both}
use Rattle.ice_net.specs.Uses.{input_type}
use Rattle.ice_net.specs.NetlistData.{NetlistData}
use Rattle.ice_decode.specs.declared.point.Point.{Point}
use Rattle.ice_decode.specs.Cells.{cells, has_carry, has_flop, reset_of}
use Rattle.ice_decode.specs.Pads.{pin_type, has_output_register}
use Rattle.ice_decode.specs.Reads.{at_pin, cell_inputs, carry_inputs}
use Rattle.ice_back_laws.specs.Numbers.{port_number, input_number, given_number, kept_number, level_number, cell_number, reader_of, signal, back_names}
use Rattle.ice_back_laws.specs.Roots.{is_registered, feeds_global, cell_table, table_root, root_of}

-- the input of a cell that reads a point; one without a wire is missing
abbrev pub reader : Parts → Bits → List (ℕ × ℕ × ℕ) → List Pad → Bool → Option Point → Option SignalNo
reader parts bits extras bonded bare None = None
reader parts bits extras bonded bare (Some p) = reader_of parts bonded bare (root_of parts bits extras bonded p)

abbrev pub pin_reader : Parts → Bits → List (ℕ × ℕ × ℕ) → List Pad → Bool → TileAt → List ℕ → Option SignalNo
pin_reader parts bits extras bonded bare t name = reader parts bits extras bonded bare (at_pin parts t name)

-- cells have no line
abbrev pub cell : CellKind → List (Option SignalNo) → List (Option SignalNo) → Cell
cell kind ins outs = record { kind = kind; line = 0; ins = ins; outs = outs }

abbrev pub signal_at : ℕ → Option SignalNo
signal_at n = Some (signal n)

-- ---- pads
-- the output part of a pad's SB_IO: the pad's own, but a pad that is driven with what a register keeps is simply driven, since the register
-- is a cell of its own
abbrev pub buffer_part : ℕ → ℕ
buffer_part part = if part == 5 then 6 else part

-- the pin type of a pad's SB_IO: that output part, and the input part of a plain input
abbrev pub buffer_type : Parts → Bits → Pad → ℕ
buffer_type parts bits pad = 4 * buffer_part (pin_type parts bits pad / 4) + input_type

-- what the pad of number k is driven with: what its register keeps, or the level at its D_OUT_0
abbrev pub driven_reader : Parts → Bits → List (ℕ × ℕ × ℕ) → List Pad → ℕ × Pad → Option SignalNo
driven_reader parts bits extras bonded p =
    if has_output_register parts bits p.1 then signal_at (kept_number p.0) else pin_reader parts bits extras bonded false p.1.tile (pad_output_name p.1.pio)

-- the SB_IO of the pad of number k, whose D_IN_0 is this signal
abbrev pub buffer_cell : Parts → Bits → List (ℕ × ℕ × ℕ) → List Pad → ℕ × Pad → ℕ → Cell
buffer_cell parts bits extras bonded p given =
    cell (PadCell (buffer_type parts bits p.1) false)
    (signal_at (port_number p.0) ∷ driven_reader parts bits extras bonded p ∷ pin_reader parts bits extras bonded false p.1.tile (output_enable_name p.1.pio)
    ∷ None ∷ None ∷ None ∷ None ∷ None ∷ [])
    (signal_at given ∷ None ∷ [])

-- what it gives goes to its register, if the netlist has it
abbrev pub pad_cell : Parts → Bits → List (ℕ × ℕ × ℕ) → List Pad → ℕ × Pad → Cell
pad_cell parts bits extras bonded p = buffer_cell parts bits extras bonded p (if is_registered parts bits p.1 then given_number p.0 else input_number p.0)

-- a register of a pad: the wire of its clock, its datum and its output
abbrev pub register_cell : Parts → Bits → List (ℕ × ℕ × ℕ) → List Pad → TileAt → List ℕ → Option SignalNo → ℕ → Cell
register_cell parts bits extras bonded t clock_name datum output =
    cell (Flop false true reset.Nothing) (pin_reader parts bits extras bonded false t clock_name ∷ datum ∷ pin_reader parts bits extras bonded true t in_out_enable_name ∷ []) (signal_at output ∷ [])

-- the one that takes what the pad gives
abbrev pub input_cell : Parts → Bits → List (ℕ × ℕ × ℕ) → List Pad → ℕ × Pad → Cell
input_cell parts bits extras bonded p = register_cell parts bits extras bonded p.1.tile input_clock_name (signal_at (given_number p.0)) (input_number p.0)

abbrev pub input_cells : Parts → Bits → List (ℕ × ℕ × ℕ) → List Pad → ℕ × Pad → List Cell
input_cells parts bits extras bonded p = if is_registered parts bits p.1 then input_cell parts bits extras bonded p ∷ [] else []

-- the one that the pad is driven with
abbrev pub output_cell : Parts → Bits → List (ℕ × ℕ × ℕ) → List Pad → ℕ × Pad → Cell
output_cell parts bits extras bonded p =
    register_cell parts bits extras bonded p.1.tile output_clock_name (pin_reader parts bits extras bonded false p.1.tile (pad_output_name p.1.pio)) (kept_number p.0)

abbrev pub output_cells : Parts → Bits → List (ℕ × ℕ × ℕ) → List Pad → ℕ × Pad → List Cell
output_cells parts bits extras bonded p = if has_output_register parts bits p.1 then output_cell parts bits extras bonded p ∷ [] else []

-- the SB_GB of a pad whose level is on some global
abbrev pub level_cell : ℕ → Cell
level_cell k = cell Global (signal_at (port_number k) ∷ []) (signal_at (level_number k) ∷ [])

abbrev pub level_cells : Parts → Bits → List (ℕ × ℕ × ℕ) → ℕ × Pad → List Cell
level_cells parts bits extras p = if feeds_global parts bits extras p.1 then level_cell p.0 ∷ [] else []

-- the cells of a pad beside its SB_IO
abbrev pub side_cells : Parts → Bits → List (ℕ × ℕ × ℕ) → List Pad → ℕ × Pad → List Cell
side_cells parts bits extras bonded p = input_cells parts bits extras bonded p ++ (output_cells parts bits extras bonded p ++ level_cells parts bits extras p)

-- ---- logic cells
-- the table of a cell
abbrev pub table_cell : Parts → Bits → List (ℕ × ℕ × ℕ) → List Pad → TileAt × ℕ → Cell
table_cell parts bits extras bonded c =
    cell (Lut (cell_table parts bits c.0 c.1)) (map (reader parts bits extras bonded false) (cell_inputs parts c.0 c.1)) (signal_at (cell_number parts bonded c.0 c.1) ∷ [])

-- where it has a bit
abbrev pub table_cells : Parts → Bits → List (ℕ × ℕ × ℕ) → List Pad → TileAt × ℕ → List Cell
table_cells parts bits extras bonded c = if cell_table parts bits c.0 c.1 == 0 then [] else table_cell parts bits extras bonded c ∷ []

-- its carry
abbrev pub carry_cell : Parts → Bits → List (ℕ × ℕ × ℕ) → List Pad → TileAt × ℕ → Cell
carry_cell parts bits extras bonded c =
    cell kinds.TheVariants.Carry (map (reader parts bits extras bonded false) (carry_inputs parts c.0 c.1)) (signal_at (cell_number parts bonded c.0 c.1 + 2) ∷ [])

-- where it is enabled
abbrev pub carry_cells : Parts → Bits → List (ℕ × ℕ × ℕ) → List Pad → TileAt × ℕ → List Cell
carry_cells parts bits extras bonded c = if has_carry parts bits c.0 c.1 then carry_cell parts bits extras bonded c ∷ [] else []

-- its flip-flop, which takes what the table gives
abbrev pub flop_cell : Parts → Bits → List (ℕ × ℕ × ℕ) → List Pad → TileAt × ℕ → Cell
flop_cell parts bits extras bonded c =
    cell (Flop (set_at parts bits c.0 (codes "NegClk") 0) true (reset_of parts bits c.0 c.1))
    (pin_reader parts bits extras bonded false c.0 (codes "lutff_global/clk") ∷ reader_of parts bonded false (table_root parts bits c.0 c.1) ∷ pin_reader parts bits extras bonded true c.0 (codes "lutff_global/cen")
    ∷ pin_reader parts bits extras bonded false c.0 (codes "lutff_global/s_r") ∷ [])
    (signal_at (cell_number parts bonded c.0 c.1 + 1) ∷ [])

-- where the cell's output is its
abbrev pub flop_cells : Parts → Bits → List (ℕ × ℕ × ℕ) → List Pad → TileAt × ℕ → List Cell
flop_cells parts bits extras bonded c = if has_flop parts bits c.0 c.1 then flop_cell parts bits extras bonded c ∷ [] else []

abbrev pub logic_cells : Parts → Bits → List (ℕ × ℕ × ℕ) → List Pad → TileAt × ℕ → List Cell
logic_cells parts bits extras bonded c = table_cells parts bits extras bonded c ++ (carry_cells parts bits extras bonded c ++ flop_cells parts bits extras bonded c)

-- ---- the netlist
-- the fixed levels: covers without inputs
abbrev pub fixed_cells : List Cell
fixed_cells = cell (Cover 0 0) [] (signal_at 0 ∷ []) ∷ cell (Cover 1 0) [] (signal_at 1 ∷ []) ∷ []

-- the pads of a package with their numbers
abbrev pub numbered_pads : List Pad → List (ℕ × Pad)
numbered_pads pads = zip (range_with_len 0 (length pads)) pads

abbrev pub pad_port : ℕ → Port
pad_port k = record { signal = signal (port_number k); way = Both }

-- The netlist of the bits of a chip: the fixed levels, a port and an SB_IO for each pad of the package in order, pad by pad its registers
-- and its SB_GB, and cell by cell a look-up table, a carry and a flip-flop, where the bits make them.
abbrev pub back_netlist : Parts → Bits → List (ℕ × ℕ × ℕ) → PackageRows → NetlistData
back_netlist parts bits extras package_rows = record {
  names = back_names parts package_rows;
  ports = map pad_port (range_with_len 0 (length package_rows.pads));
  cells = fixed_cells
      ++ (map (pad_cell parts bits extras package_rows.pads) (numbered_pads package_rows.pads)
      ++ (flat_map (side_cells parts bits extras package_rows.pads) (numbered_pads package_rows.pads) ++ flat_map (logic_cells parts bits extras package_rows.pads) (cells parts)));
}
