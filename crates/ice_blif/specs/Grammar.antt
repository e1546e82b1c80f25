-- The netlist of a text, or the first fault in it.
use Rattle.std.specs.Prelude.{◌≡◌, ◌≤◌, ℕ, ◌+◌, ◌-◌, Bool, true, false, ◌||◌, ◌==◌, List, [], ◌∷◌, ◌++◌, length, take, drop, position, replicate, nat_le, nat_lt, slice_set, slice_index_or, Option, Some, None, Result, Ok, Err, if◌then◌else◌, codes, bytes_eq}
use Rattle.ice_base.specs.Text.{lines, numbered, begins_with}
use Rattle.ice_base.specs.Lists.{with_name, number_of_name}
use Rattle.ice_base.specs.declared.number.SignalNo.{SignalNo}
use Rattle.ice_net.specs.declared.cell.Cell.{Cell}
use Rattle.ice_net.specs.declared.port.Way.{Way}
use Rattle.ice_net.specs.declared.port.Way.TheVariants.{Input, Output}
use Rattle.ice_net.specs.Kinds.{ins_count}
use Rattle.ice_net.specs.NetlistData.{NetlistData, empty_netlist, with_port}
use Rattle.ice_net.specs.Ways.{way_of}
use Rattle.ice_blif.specs.declared.fault.BlifFault.{BlifFault}
use Rattle.ice_blif.specs.declared.fault.BlifFault.TheVariants.{NoModel, SecondModel, UnknownDirective, UnknownCell, UnknownPort, PortTwice, BadCover, TooWide, NoEnd, TooMany}
use Rattle.ice_blif.specs.State.{OpenCover, LastCell, Nothing, Gate, Rows, named, signal_of, finished, Memory}
use Rattle.ice_blif.specs.Reading.{NetReading, Connections}
use Rattle.ice_blif.specs.JoinedLines.{FilledLine, joined, filled, last_number}
use Rattle.ice_blif.specs.Cells.{◌>>=◌, cover_row_says, param_says, count_of}
use Rattle.ice_blif.specs.declared.kind.GateKind.{GateKind}
use Rattle.ice_blif.specs.Gates.{gate_kind_of, gate_outs}
use Rattle.ice_blif.specs.Registers.{taken_apart}
use Rattle.ice_blif.specs.FewSignals.{taken_apart_says}
use Rattle.ice_ram_words.specs.declared.kind.Edges.{Edges}
use Rattle.ice_ram_words.specs.Words.{edges_of}
use Rattle.ice_blif.specs.declared.kind.Formals.{Formals}
use Rattle.ice_blif.specs.declared.kind.Formals.TheVariants.{OfGate, OfRam}
use Rattle.ice_blif.specs.Formals.{formal_place, formal_ins}

-- ---- ports
-- a signal was named as a port of this way
abbrev pub was_named : Way → Option Way → Bool
was_named way None = false
was_named Input (Some Output) = false
was_named Output (Some Input) = false
was_named way (Some now) = true

-- the netlist after a name is named as a port
abbrev pub with_named_port : NetlistData → Way → List ℕ → NetlistData
with_named_port n way name = record { names = with_name n.names name; ports = with_port n.ports (signal_of n name) way; cells = n.cells }

abbrev pub port_says : ℕ → Way → NetlistData → List ℕ → Result NetlistData BlifFault
port_says line way n name =
    if was_named way (way_of n.ports (number_of_name n.names name)) then Err (PortTwice line) else Ok (with_named_port n way name)

-- the netlist after all names of a line are named as ports: none of them twice as an input, or twice as an output
abbrev pub ports_say : ℕ → Way → NetlistData → List (List ℕ) → Result NetlistData BlifFault
ports_say line way n [] = Ok n
ports_say line way n (name ∷ names) = port_says line way n name >>= (λ m. ports_say line way m names)

-- ---- gates
-- no port is connected; a RAM has the most ports, 76
abbrev pub no_wiring : Connections
no_wiring = record {
  taken = replicate 76 false;
  signals = replicate 76 None;
  twice = false;
}

-- the port of that place is connected
abbrev pub wired : Connections → ℕ → Option SignalNo → Connections
wired wiring place signal = record {
  taken = slice_set wiring.taken place true;
  signals = slice_set wiring.signals place signal;
  twice = wiring.twice || slice_index_or wiring.taken place false;
}

-- an actual that makes no appearance: it is empty, or it is `$undef` at an output
abbrev pub is_missing : Bool → List ℕ → Bool
is_missing output actual = bytes_eq actual (codes "") || (if output then bytes_eq actual (codes "$undef") else false)

-- the netlist after an actual, and the signal that it is
abbrev pub after_actual : NetlistData → Bool → List ℕ → NetlistData
after_actual n output actual = if is_missing output actual then n else named n actual

abbrev pub actual_signal : NetlistData → Bool → List ℕ → Option SignalNo
actual_signal n output actual = if is_missing output actual then None else Some (signal_of n actual)

abbrev pub connect : NetlistData → Connections → ℕ → Bool → List ℕ → NetlistData × Connections
connect n wiring place output actual = (after_actual n output actual, wired wiring place (actual_signal n output actual))

abbrev pub connect_at : ℕ → Formals → NetlistData → Connections → List ℕ → Option ℕ → Result (NetlistData × Connections) BlifFault
connect_at line formals n wiring actual None = Err (UnknownPort line)
connect_at line formals n wiring actual (Some place) = Ok (connect n wiring place (nat_le (formal_ins formals) place) actual)

abbrev pub connect_by : ℕ → Formals → NetlistData → Connections → List ℕ → Option ℕ → Result (NetlistData × Connections) BlifFault
connect_by line formals n wiring word None = Err (UnknownPort line)
connect_by line formals n wiring word (Some at) = connect_at line formals n wiring (drop (at + 1) word) (formal_place formals (take at word))

-- the place of the first `=` (61) of a word
unfoldable pub equals_at : List ℕ → Option ℕ
equals_at word = position (λ b. b == 61) word

-- one connection, FORMAL=ACTUAL; the formal ends at the first `=`
abbrev pub connection_says : ℕ → Formals → NetlistData → Connections → List ℕ → Result (NetlistData × Connections) BlifFault
connection_says line formals n wiring word = connect_by line formals n wiring word (equals_at word)

-- all connections of a line. That a port is named twice is found after its unknown ports
abbrev pub connections_say : ℕ → Formals → NetlistData → Connections → List (List ℕ) → Result (NetlistData × Connections) BlifFault
connections_say line formals n wiring [] = if wiring.twice then Err (PortTwice line) else Ok (n, wiring)
connections_say line formals n wiring (w ∷ ws) = connection_says line formals n wiring w >>= (λ c. connections_say line formals c.0 c.1 ws)

-- the cell of a gate with its connections; one that feeds a global has the global's output behind its own
abbrev pub cell_of : ℕ → GateKind → Connections → Cell
cell_of line gate wiring = record {
  kind = gate.kind;
  line = line;
  ins = take (ins_count gate.kind) wiring.signals;
  outs = take (gate_outs gate) (drop (ins_count gate.kind) wiring.signals);
}

-- a reader with a new last cell
abbrev pub with_last : NetlistData → LastCell → LastCell → Bool → NetReading
with_last n before now rows = record { netlist = finished n before; last = now; rows = rows }

-- a RAM makes no cell here: only its signals appear. What it is, is said where RAMs are read
abbrev pub ram_says : ℕ → NetReading → List (List ℕ) → Edges → Result NetReading BlifFault
ram_says line r ws edges = connections_say line (OfRam edges) r.netlist no_wiring ws >>= (λ c. Ok (with_last c.0 r.last Memory false))

abbrev pub ram_of_word : ℕ → NetReading → List (List ℕ) → Option Edges → Result NetReading BlifFault
ram_of_word line r ws None = Err (UnknownCell line)
ram_of_word line r ws (Some edges) = ram_says line r ws edges

abbrev pub gate_of_kind : ℕ → NetReading → List ℕ → List (List ℕ) → Option GateKind → Result NetReading BlifFault
gate_of_kind line r w ws None = ram_of_word line r ws (edges_of w)
gate_of_kind line r w ws (Some gate) = connections_say line (OfGate gate) r.netlist no_wiring ws >>= (λ c. Ok (with_last c.0 r.last (Gate (cell_of line gate c.1)) false))

-- `.gate KIND F=A ..` and `.subckt KIND F=A ..`
abbrev pub gate_says : ℕ → NetReading → List (List ℕ) → Result NetReading BlifFault
gate_says line r [] = Err (UnknownCell line)
gate_says line r (w ∷ ws) = gate_of_kind line r w ws (gate_kind_of w)

-- ---- covers
-- the signals of a cover: at most four inputs and an output
abbrev pub cover_signals : ℕ → NetlistData → List (Option SignalNo) → List (List ℕ) → Result (NetlistData × List (Option SignalNo)) BlifFault
cover_signals line n signals [] = Ok (n, signals)
cover_signals line n signals (w ∷ ws) =
    if nat_lt 4 (length signals) then Err (TooWide line) else cover_signals line (named n w) (signals ++ Some (signal_of n w) ∷ []) ws

-- a cover without rows: the last signal is its output
abbrev pub new_cover : ℕ → List (Option SignalNo) → OpenCover
new_cover line signals = record { line = line; ins = take (length signals - 1) signals; outs = drop (length signals - 1) signals; covered = 0; level = None }

abbrev pub cover_of : ℕ → NetReading → NetlistData → List (Option SignalNo) → Result NetReading BlifFault
cover_of line r n [] = Err (BadCover line)
cover_of line r n (s ∷ signals) = Ok (with_last n r.last (Rows (new_cover line (s ∷ signals))) true)

-- `.names I.. O`
abbrev pub names_say : ℕ → NetReading → List (List ℕ) → Result NetReading BlifFault
names_say line r ws = cover_signals line r.netlist [] ws >>= (λ c. cover_of line r c.0 c.1)

-- ---- lines
-- a reader that takes no rows
abbrev pub without_rows : NetlistData → LastCell → NetReading
without_rows n last = record { netlist = n; last = last; rows = false }

abbrev pub row_line : ℕ → NetReading → LastCell → List ℕ → List (List ℕ) → Result NetReading BlifFault
row_line line r Nothing first others = Err (UnknownDirective line)
row_line line r (Gate cell) first others = Err (UnknownDirective line)
row_line line r Memory first others = Err (UnknownDirective line)
row_line line r (Rows cover) first others = cover_row_says line cover first others >>= (λ c. Ok (record { netlist = r.netlist; last = Rows c; rows = true }))

-- a line whose first word begins with no dot: a row, where one may stand
abbrev pub row_or_fault : ℕ → NetReading → List ℕ → List (List ℕ) → Result NetReading BlifFault
row_or_fault line r first others = if r.rows then row_line line r r.last first others else Err (UnknownDirective line)

-- `.inputs NAME ..` and `.outputs NAME ..`
abbrev pub port_directive_says : ℕ → Way → NetReading → List (List ℕ) → Result NetReading BlifFault
port_directive_says line way r names = ports_say line way r.netlist names >>= (λ n. Ok (without_rows n r.last))

-- `.param NAME VALUE`
abbrev pub param_directive_says : ℕ → NetReading → List (List ℕ) → Result NetReading BlifFault
param_directive_says line r ws = param_says line r.last ws >>= (λ last. Ok (without_rows r.netlist last))

-- a line whose first word begins with a dot, and is not `.end`
abbrev pub directive_says : ℕ → NetReading → List ℕ → List (List ℕ) → Result NetReading BlifFault
directive_says line r first others =
    if bytes_eq first (codes ".gate") || bytes_eq first (codes ".subckt") then gate_says line r others
    else (if bytes_eq first (codes ".names") then names_say line r others
    else (if bytes_eq first (codes ".param") then param_directive_says line r others
    else (if bytes_eq first (codes ".attr") || bytes_eq first (codes ".cname") then Ok (without_rows r.netlist r.last)
    else (if bytes_eq first (codes ".inputs") then port_directive_says line Input r others
    else (if bytes_eq first (codes ".outputs") then port_directive_says line Output r others
    else (if bytes_eq first (codes ".model") then Err (SecondModel line)
    else Err (UnknownDirective line)))))))

-- at most 65,534 signals, and 1,048,576 lines that make a cell
abbrev pub within_limits : ℕ → NetReading → Result NetReading BlifFault
within_limits line r =
    if nat_lt 65534 (length r.netlist.names) then Err (TooMany line 65534)
    else (if nat_lt 1048576 (length r.netlist.cells + count_of r.last) then Err (TooMany line 1048576)
    else Ok r)

-- no limits
abbrev pub no_limits : ℕ → NetReading → Result NetReading BlifFault
no_limits line r = Ok r

-- no limits, but no RAM either
abbrev pub unless_ram : ℕ → NetReading → LastCell → Result NetReading BlifFault
unless_ram line r Nothing = Ok r
unless_ram line r (Gate cell) = Ok r
unless_ram line r Memory = Err (UnknownCell line)
unless_ram line r (Rows cover) = Ok r

abbrev pub no_rams : ℕ → NetReading → Result NetReading BlifFault
no_rams line r = unless_ram line r r.last

-- a line of the model; `.` is 46. That a line goes beyond the limits is found after its other faults
abbrev pub line_says : (ℕ → NetReading → Result NetReading BlifFault) → FilledLine → NetReading → Result NetReading BlifFault
line_says limits l r = (if begins_with 46 l.first then directive_says l.number r l.first l.others else row_or_fault l.number r l.first l.others) >>= limits l.number

-- ---- the text
-- behind `.end` only a second `.model` is a fault
abbrev pub after_end : List FilledLine → Result (Unit {0}) BlifFault
after_end [] = Ok tt
after_end (l ∷ ls) = if bytes_eq l.first (codes ".model") then Err (SecondModel l.number) else after_end ls

-- the netlist of a reader that came to `.end`
abbrev pub ended : NetReading → List FilledLine → Result NetlistData BlifFault
ended r ls = after_end ls >>= (λ u. Ok (finished r.netlist r.last))

-- the lines behind `.model`; `last` is the number of the text's last line
abbrev pub model_says : (ℕ → NetReading → Result NetReading BlifFault) → ℕ → NetReading → List FilledLine → Result NetlistData BlifFault
model_says limits last r [] = Err (NoEnd last)
model_says limits last r (l ∷ ls) =
    if bytes_eq l.first (codes ".end") then ended r ls else line_says limits l r >>= (λ s. model_says limits last s ls)

abbrev pub empty_reader : NetReading
empty_reader = record { netlist = empty_netlist; last = Nothing; rows = false }

-- the lines of a text: `.model` comes first
abbrev pub lines_say : (ℕ → NetReading → Result NetReading BlifFault) → ℕ → List FilledLine → Result NetlistData BlifFault
lines_say limits last [] = Err (NoModel 0)
lines_say limits last (l ∷ ls) = if bytes_eq l.first (codes ".model") then model_says limits last empty_reader ls else Err (NoModel l.number)

-- the text's netlist whose cells are as their lines say them
abbrev pub text_says : (ℕ → NetReading → Result NetReading BlifFault) → List ℕ → Result NetlistData BlifFault
text_says limits text = lines_say limits (last_number 0 (numbered 1 (lines text))) (filled (joined (numbered 1 (lines text))))

-- the text has this netlist, whatever its size; its RAMs are left out
abbrev pub HasNetlist : List ℕ → NetlistData → Type 0
HasNetlist text n = (raw : NetlistData) × (text_says no_limits text ≡ Ok raw) × (n ≡ taken_apart raw)

abbrev pub lines_made : Result NetlistData BlifFault → ℕ
lines_made (Ok raw) = length raw.cells
lines_made (Err fault) = 0

-- the text has this netlist, whatever its size, and no RAM
abbrev pub HasNetlistAlone : List ℕ → NetlistData → Type 0
HasNetlistAlone text n = (raw : NetlistData) × (text_says no_rams text ≡ Ok raw) × (n ≡ taken_apart raw)

-- how many lines of a text make a cell, where it has a netlist
abbrev pub cell_lines : List ℕ → ℕ
cell_lines text = lines_made (text_says no_limits text)

-- at most 65,534 signals, and 1,048,576 lines that make a cell. So there are at most three times as many cells: those of a pad are
-- itself, a register and an SB_GB
pub record IsWithinLimits (text : List ℕ) (n : NetlistData) : Type 0 where
  pub signals : length n.names ≤ 65534
  pub lines : cell_lines text ≤ 1048576
  pub cells : length n.cells ≤ 3145728

-- the netlist of a text, its RAMs left out, or its first fault: of several lines with one the first, and of a line with several the one that comes
-- first in the order of the faults. That hidden signals are too many is found after all others
abbrev pub netlist_of : List ℕ → Result NetlistData BlifFault
netlist_of text = text_says within_limits text >>= taken_apart_says
