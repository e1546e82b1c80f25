-- The text that is written for a netlist.
use Rattle.std.specs.Prelude.{ℕ, ◌+◌, ◌/◌, ◌%◌, ◌^◌, ◌==◌, Bool, true, false, List, [], ◌∷◌, ◌++◌, map, Option, Some, None, if◌then◌else◌, codes, slice_index_or, zero, suc}
use Rattle.std.specs.List.{flat_map}
use Rattle.ice_base.specs.Lines.{text_of_lines}
use Rattle.ice_base.specs.declared.number.SignalNo.{SignalNo}
use Rattle.ice_net.specs.declared.cell.Cell.{Cell}
use Rattle.ice_net.specs.declared.kind.CellKind.{CellKind}
use Rattle.ice_net.specs.declared.kind.CellKind.TheVariants.{Lut, Cover, Carry, Flop, PadCell, Global}
use Rattle.ice_net.specs.declared.kind.Reset.{Reset}
use Rattle.ice_net.specs.declared.kind.Reset.TheVariants.{Nothing, SyncReset, AsyncReset, SyncSet, AsyncSet}
use Rattle.ice_net.specs.declared.port.Port.{Port}
use Rattle.ice_net.specs.declared.port.Way.{Way}
use Rattle.ice_net.specs.declared.port.Way.TheVariants.{Input, Output, Both}
use Rattle.ice_net.specs.Kinds.{in_names, out_names}
use Rattle.ice_net.specs.Meaning.{table_bit}
use Rattle.ice_net.specs.NetlistData.{NetlistData}

-- ---- lines
-- the words of a line: the first, and the others
abbrev pub Words : Type 0
Words = List ℕ × List (List ℕ)

-- a word behind a space
abbrev pub behind_space : List ℕ → List ℕ
behind_space word = 32 ∷ word

-- the last byte of a line is this one
abbrev pub ends_in : ℕ → List ℕ → Bool
ends_in b [] = false
ends_in b (c ∷ []) = c == b
ends_in b (c ∷ d ∷ line) = ends_in b (d ∷ line)

-- a line that ends in a backslash (92) would go on in the next one: it gets a blank and `#`
abbrev pub guarded : List ℕ → List ℕ
guarded line = if ends_in 92 line then line ++ 32 ∷ 35 ∷ [] else line

-- a line of these words, parted by spaces
abbrev pub line_of : Words → List ℕ
line_of ws = guarded (ws.0 ++ flat_map behind_space ws.1)

-- ---- numbers
-- 48 is `0`, 49 is `1`
abbrev pub digit_of : ℕ → ℕ
digit_of bit = 48 + bit

-- so many digits of a number, the greatest first
abbrev pub digits_of : ℕ → ℕ → List ℕ
digits_of zero n = []
digits_of (suc width) n = digit_of (n / 2 ^ width % 2) ∷ digits_of width n

-- a row of a cover: the levels with the number j, the first input the lowest digit
abbrev pub levels_of : ℕ → ℕ → List ℕ
levels_of zero j = []
levels_of (suc width) j = digit_of (j % 2) ∷ levels_of width (j / 2)

-- ---- ports
abbrev pub name_of : List (List ℕ) → SignalNo → List ℕ
name_of names signal = slice_index_or names signal.0 []

abbrev pub port_lines_by : List ℕ → Way → List Words
port_lines_by name Input = (codes ".inputs", name ∷ []) ∷ []
port_lines_by name Output = (codes ".outputs", name ∷ []) ∷ []
port_lines_by name Both = (codes ".inputs", name ∷ []) ∷ (codes ".outputs", name ∷ []) ∷ []

-- a port: a line for each of its ways
abbrev pub port_lines : List (List ℕ) → Port → List Words
port_lines names port = port_lines_by (name_of names port.signal) port.way

-- ---- cells
-- a signal that may be missing, as words
abbrev pub signal_words : List (List ℕ) → Option SignalNo → List (List ℕ)
signal_words names None = []
signal_words names (Some signal) = name_of names signal ∷ []

-- FORMAL=ACTUAL, where the signal is there; 61 is `=`
abbrev pub connection : List (List ℕ) → List ℕ → Option SignalNo → List (List ℕ)
connection names formal None = []
connection names formal (Some signal) = (formal ++ 61 ∷ name_of names signal) ∷ []

-- the names of a kind's inputs and then outputs
abbrev pub port_names : CellKind → List (List ℕ)
port_names kind = in_names kind ++ out_names kind

-- the signals that are there, each with the name of its place
abbrev pub connections : List (List ℕ) → List (List ℕ) → List (Option SignalNo) → List (List ℕ)
connections names [] signals = []
connections names (formal ∷ formals) [] = []
connections names (formal ∷ formals) (signal ∷ signals) = connection names formal signal ++ connections names formals signals

abbrev pub reset_word : Reset → List ℕ
reset_word Nothing = []
reset_word SyncReset = codes "SR"
reset_word AsyncReset = codes "R"
reset_word SyncSet = codes "SS"
reset_word AsyncSet = codes "S"

-- `N` (78) for a falling clock, `E` (69) for an enable
abbrev pub flag : ℕ → Bool → List ℕ
flag letter true = letter ∷ []
flag letter false = []

-- the word that names a kind
abbrev pub kind_word : CellKind → List ℕ
kind_word (Lut table) = codes "SB_LUT4"
kind_word (Cover table width) = []
kind_word Carry = codes "SB_CARRY"
kind_word (Flop falling enable reset) = codes "SB_DFF" ++ (flag 78 falling ++ (flag 69 enable ++ reset_word reset))
kind_word (PadCell pin_type pullup) = codes "SB_IO"
kind_word Global = codes "SB_GB"

abbrev pub gate_line : List (List ℕ) → CellKind → List (Option SignalNo) → List (Option SignalNo) → Words
gate_line names kind ins outs = (codes ".gate", kind_word kind ∷ connections names (port_names kind) (ins ++ outs))

-- the first line of a cell: its kind and its signals
abbrev pub first_line : List (List ℕ) → CellKind → List (Option SignalNo) → List (Option SignalNo) → Words
first_line names (Lut table) ins outs = gate_line names (Lut table) ins outs
first_line names (Cover table width) ins outs = (codes ".names", flat_map (signal_words names) (ins ++ outs))
first_line names Carry ins outs = gate_line names Carry ins outs
first_line names (Flop falling enable reset) ins outs = gate_line names (Flop falling enable reset) ins outs
first_line names (PadCell pin_type pullup) ins outs = gate_line names (PadCell pin_type pullup) ins outs
first_line names Global ins outs = gate_line names Global ins outs

abbrev pub param_line : List ℕ → List ℕ → Words
param_line name value = (codes ".param", name ∷ value ∷ [])

-- the row of the levels with the number j. Without inputs it is the level alone
abbrev pub row_line : ℕ → ℕ → Words
row_line zero j = (codes "1", [])
row_line (suc width) j = (levels_of (suc width) j, codes "1" ∷ [])

-- and where a table has a bit for that number
abbrev pub entry_lines : ℕ → ℕ → ℕ → List Words
entry_lines table width j = if table_bit table j then row_line width j ∷ [] else []

-- the rows of a table from the number j on, so many numbers
abbrev pub rows_from : ℕ → ℕ → ℕ → ℕ → List Words
rows_from table width j zero = []
rows_from table width j (suc left) = entry_lines table width j ++ rows_from table width (j + 1) left

-- the lines below it: parameters, and the rows of the on-set of a cover
abbrev pub lines_below : CellKind → List Words
lines_below (Lut table) = param_line (codes "LUT_INIT") (digits_of 16 table) ∷ []
lines_below (Cover table width) = rows_from table width 0 (2 ^ width)
lines_below Carry = []
lines_below (Flop falling enable reset) = []
lines_below (PadCell pin_type pullup) = param_line (codes "PIN_TYPE") (digits_of 6 pin_type) ∷ param_line (codes "PULLUP") (digits_of 1 (if pullup then 1 else 0)) ∷ []
lines_below Global = []

abbrev pub cell_lines : List (List ℕ) → Cell → List Words
cell_lines names cell = first_line names cell.kind cell.ins cell.outs ∷ lines_below cell.kind

-- ---- the text
-- the model `back`: its ports in order, its cells in order, and its end
abbrev pub netlist_lines : NetlistData → List Words
netlist_lines n = (codes ".model", codes "back" ∷ []) ∷ (flat_map (port_lines n.names) n.ports ++ (flat_map (cell_lines n.names) n.cells ++ (codes ".end", []) ∷ []))

-- the text that is written for a netlist
abbrev pub blif_text : NetlistData → List ℕ
blif_text n = text_of_lines (map line_of (netlist_lines n))
