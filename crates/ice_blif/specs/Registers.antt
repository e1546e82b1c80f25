-- Pads with a register and pads that feed a global, taken apart into cells that a netlist has.
use Rattle.std.specs.Prelude.{ℕ, ◌==◌, Bool, true, false, List, [], ◌∷◌, ◌++◌, decimal, slice_get, slice_index_or, slice_set, Option, Some, None, option_map, if◌then◌else◌, codes}
use Rattle.ice_base.specs.declared.number.SignalNo.{SignalNo}
use Rattle.ice_net.specs.declared.cell.Cell.{Cell}
use Rattle.ice_net.specs.declared.kind.CellKind.{CellKind}
use Rattle.ice_net.specs.declared.kind.CellKind.TheVariants.{Flop, PadCell, Global}
use Rattle.ice_net.specs.declared.kind.Reset.TheVariants.{Nothing}
use Rattle.ice_net.specs.Kinds.{outs_count}
use Rattle.ice_net.specs.NetlistData.{NetlistData}
use Rattle.ice_blif.specs.State.{named, signal_of, own_cell, with_cell}

-- ---- the cells of one
-- the name of a hidden signal: the number of the cell's line, a blank (32) and a word. No word of a text has a blank
abbrev pub hidden_name : ℕ → List ℕ → List ℕ
hidden_name line word = decimal line ++ 32 ∷ word

-- an SB_DFFE with its clock, its data, its enable and its output
abbrev pub register : ℕ → Option SignalNo → Option SignalNo → Option SignalNo → Option SignalNo → Cell
register line clock datum enable output = record { kind = Flop false true Nothing; line = line; ins = clock ∷ datum ∷ enable ∷ []; outs = output ∷ [] }

-- a pad of type 000001, whose D_IN_0 (output 0) drives the hidden signal
abbrev pub input_pad : Cell → Bool → SignalNo → Cell
input_pad cell pullup hidden = record { kind = PadCell 1 pullup; line = cell.line; ins = cell.ins; outs = slice_set cell.outs 0 (Some hidden) }

-- the register behind it: it takes the hidden signal by INPUT_CLK (input 6) and CLOCK_ENABLE (input 5), and drives D_IN_0's signal
abbrev pub input_register : Cell → SignalNo → Cell
input_register cell hidden = register cell.line (slice_index_or cell.ins 6 None) (Some hidden) (slice_index_or cell.ins 5 None) (slice_index_or cell.outs 0 None)

-- a pad of type 011001 (25), whose D_OUT_0 (input 1) is the hidden signal
abbrev pub output_pad : Cell → Bool → SignalNo → Cell
output_pad cell pullup hidden = record { kind = PadCell 25 pullup; line = cell.line; ins = slice_set cell.ins 1 (Some hidden); outs = cell.outs }

-- the register behind it: it takes D_OUT_0's signal by OUTPUT_CLK (input 7) and CLOCK_ENABLE, and drives the hidden signal
abbrev pub output_register : Cell → SignalNo → Cell
output_register cell hidden = register cell.line (slice_index_or cell.ins 7 None) (slice_index_or cell.ins 1 None) (slice_index_or cell.ins 5 None) (Some hidden)

-- an SB_GB that reads PACKAGE_PIN's signal (input 0)
abbrev pub buffer : Cell → Option SignalNo → Cell
buffer cell output = record { kind = Global; line = cell.line; ins = slice_index_or cell.ins 0 None ∷ []; outs = output ∷ [] }

-- the SB_GB of a cell with one output more than its kind has
abbrev pub buffer_of : Cell → Option Cell
buffer_of cell = option_map (buffer cell) (slice_get cell.outs (outs_count cell.kind))

-- ---- the netlist
-- with a pad that registers its input, and its register
abbrev pub with_input : NetlistData → Cell → Bool → SignalNo → NetlistData
with_input n cell pullup hidden = with_cell (with_cell n (input_pad cell pullup hidden)) (input_register cell hidden)

-- with a pad that registers its output, and its register
abbrev pub with_output : NetlistData → Cell → Bool → SignalNo → NetlistData
with_output n cell pullup hidden = with_cell (with_cell n (output_pad cell pullup hidden)) (output_register cell hidden)

-- with the cells of a pad. Of the types 000000 and 010101 (21) it is taken apart
abbrev pub with_pad : NetlistData → Cell → ℕ → Bool → NetlistData
with_pad n cell pin_type pullup =
    if pin_type == 0 then with_input (named n (hidden_name cell.line (codes "in"))) cell pullup (signal_of n (hidden_name cell.line (codes "in")))
    else (if pin_type == 21 then with_output (named n (hidden_name cell.line (codes "out"))) cell pullup (signal_of n (hidden_name cell.line (codes "out")))
    else with_cell n cell)

-- with the cells of a cell of this kind
abbrev pub with_cells_of : NetlistData → Cell → CellKind → NetlistData
with_cells_of n cell (PadCell pin_type pullup) = with_pad n cell pin_type pullup
with_cells_of n cell kind = with_cell n cell

abbrev pub with_buffer : NetlistData → Option Cell → NetlistData
with_buffer n None = n
with_buffer n (Some cell) = with_cell n cell

-- with the cells that a cell is taken apart into
abbrev pub with_apart : NetlistData → Cell → NetlistData
with_apart n cell = with_buffer (with_cells_of n (own_cell cell) cell.kind) (buffer_of cell)

-- with those of all these cells
abbrev pub all_apart : NetlistData → List Cell → NetlistData
all_apart n [] = n
all_apart n (cell ∷ cells) = all_apart (with_apart n cell) cells

-- the names and ports of a netlist
abbrev pub without_cells : NetlistData → NetlistData
without_cells n = record { names = n.names; ports = n.ports; cells = [] }

-- a netlist whose cells are as their lines say them, taken apart. Hidden signals come last, by the order of the cells
abbrev pub taken_apart : NetlistData → NetlistData
taken_apart raw = all_apart (without_cells raw) raw.cells
