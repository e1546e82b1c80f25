-- No name of a text's netlist stands twice: each line of the text keeps it so.
use Rattle.std.proofs.Common.{ℕ, ◌+◌, Bool, true, false, ◌||◌, List, [], ◌∷◌, ◌++◌, length, drop, take, nat_lt, nat_le, Option, Some, None, Result, Ok, Err, IfOk, if◌then◌else◌, codes, bytes_eq, sym, subst}
use Rattle.std.specs.List.{IsDistinct}
use Rattle.ice_base.specs.Text.{lines, numbered, begins_with}
use Rattle.ice_base.specs.Lists.{number_of_name}
use Rattle.ice_base.specs.declared.number.SignalNo.{SignalNo}
use Rattle.ice_net.specs.declared.port.Way.{Way}
use Rattle.ice_net.specs.declared.port.Way.TheVariants.{Input, Output}
use Rattle.ice_net.specs.NetlistData.{NetlistData}
use Rattle.ice_net.specs.Ways.{way_of}
use Rattle.ice_net.proofs.Single.{names_once, empty_single}
use Rattle.ice_blif.specs.declared.fault.BlifFault.{BlifFault}
use Rattle.ice_blif.specs.declared.fault.BlifFault.TheVariants.{NoModel, SecondModel, UnknownDirective, PortTwice, TooWide}
use Rattle.ice_blif.specs.GateForms.{GateForm}
use Rattle.ice_blif.specs.Gates.{gate_kind_of}
use Rattle.ice_blif.specs.State.{named, signal_of, LastCell, Nothing, Gate, Rows, finished, Memory}
use Rattle.ice_blif.specs.Reading.{NetReading, Connections}
use Rattle.ice_blif.specs.JoinedLines.{FilledLine, joined, filled, last_number}
use Rattle.ice_blif.specs.Cells.{◌>>=◌, cover_row_says, param_says}
use Rattle.ice_blif.specs.Grammar.{was_named, with_named_port, port_says, ports_say, no_wiring, is_missing, after_actual, connect_at, connect_by, equals_at, connection_says, connections_say, cell_of, with_last, without_rows, gate_of_kind, gate_says, cover_signals, cover_of, names_say, row_line, row_or_fault, port_directive_says, param_directive_says, directive_says, no_limits, line_says, after_end, ended, model_says, empty_reader, lines_say, ram_of_word}
use Rattle.ice_ram_words.specs.declared.kind.Edges.{Edges}
use Rattle.ice_ram_words.specs.Words.{edges_of}
use Rattle.ice_blif.specs.Registers.{hidden_name, without_cells}
use Rattle.ice_blif.specs.Formals.{FormalsForm, formal_place, formal_ins, of_gate, of_ram}
use Rattle.ice_blif.proofs.Apart.{HiddenKeep, all_keep}
use Rattle.ice_blif.proofs.Kept.{bind_keeps, either, any_ok}
use Rattle.ice_blif.proofs.OpenCells.{finished_names}
use Rattle.ice_blif_laws.specs.SameNames.{TextsNameOnce}

-- no name stands twice
abbrev NamesOnce : NetlistData → Type 0
NamesOnce n = IsDistinct bytes_eq n.names

abbrev Beside : {X : Type 0} → NetlistData × X → Type 0
Beside c = NamesOnce c.0

abbrev StateOnce : NetReading → Type 0
StateOnce s = NamesOnce s.netlist

finished_once : (n : NetlistData) (last : LastCell) → NamesOnce n → NamesOnce (finished n last)
finished_once n last once = subst (λ names. IsDistinct bytes_eq names) (sym (finished_names n last)) once

-- ---- ports
port_once : (line : ℕ) (way : Way) (n : NetlistData) (name : List ℕ) → NamesOnce n → IfOk (port_says line way n name) NamesOnce
port_once line way n name once =
    either NamesOnce (was_named way (way_of n.ports (number_of_name n.names name))) (Err (PortTwice line)) (Ok (with_named_port n way name)) tt (names_once n.names name once)

ports_once : (line : ℕ) (way : Way) (n : NetlistData) (names : List (List ℕ)) → NamesOnce n → IfOk (ports_say line way n names) NamesOnce
ports_once line way n [] once = once
ports_once line way n (name ∷ names) once =
    bind_keeps NamesOnce NamesOnce (port_says line way n name) (λ m. ports_say line way m names) (port_once line way n name once) (λ m later. ports_once line way m names later)

-- ---- gates
actual_once : (n : NetlistData) (output : Bool) (actual : List ℕ) → NamesOnce n → NamesOnce (after_actual n output actual)
actual_once n output actual once = by (is_missing output actual)
  where
    by : (b : Bool) → NamesOnce (if b then n else named n actual)
    by true = once
    by false = names_once n.names actual once

connect_once : (line : ℕ) (formals : FormalsForm) (n : NetlistData) (wiring : Connections) (word : List ℕ) (at : Option ℕ) → NamesOnce n → IfOk (connect_by line formals n wiring word at) (Beside {X = Connections})
connect_once line formals n wiring word None once = tt
connect_once line formals n wiring word (Some at) once = place (formal_place formals (take at word))
  where
    place : (o : Option ℕ) → IfOk (connect_at line formals n wiring (drop (at + 1) word) o) (Beside {X = Connections})
    place None = tt
    place (Some k) = actual_once n (nat_le (formal_ins formals) k) (drop (at + 1) word) once

connections_once : (line : ℕ) (formals : FormalsForm) (n : NetlistData) (wiring : Connections) (words : List (List ℕ)) → NamesOnce n → IfOk (connections_say line formals n wiring words) (Beside {X = Connections})
connections_once line formals n wiring [] once = either (Beside {X = Connections}) wiring.twice (Err (PortTwice line)) (Ok (n, wiring)) tt once
connections_once line formals n wiring (w ∷ ws) once =
    bind_keeps (Beside {X = Connections}) (Beside {X = Connections}) (connection_says line formals n wiring w) (λ c. connections_say line formals c.0 c.1 ws) (connect_once line formals n wiring w (equals_at w) once)
    (λ c later. connections_once line formals c.0 c.1 ws later)

ram_once : (line : ℕ) (r : NetReading) (words : List (List ℕ)) (edges : Option Edges) → StateOnce r → IfOk (ram_of_word line r words edges) StateOnce
ram_once line r words None once = tt
ram_once line r words (Some edges) once =
    bind_keeps (Beside {X = Connections}) StateOnce (connections_say line (of_ram edges) r.netlist no_wiring words) (λ c. Ok (with_last c.0 r.last Memory false))
    (connections_once line (of_ram edges) r.netlist no_wiring words once) (λ c later. finished_once c.0 r.last later)

gate_of_kind_once : (line : ℕ) (r : NetReading) (word : List ℕ) (words : List (List ℕ)) (gate : Option GateForm) → StateOnce r → IfOk (gate_of_kind line r word words gate) StateOnce
gate_of_kind_once line r word words None once = ram_once line r words (edges_of word) once
gate_of_kind_once line r word words (Some gate) once =
    bind_keeps (Beside {X = Connections}) StateOnce (connections_say line (of_gate gate) r.netlist no_wiring words) (λ c. Ok (with_last c.0 r.last (Gate (cell_of line gate c.1)) false))
    (connections_once line (of_gate gate) r.netlist no_wiring words once) (λ c later. finished_once c.0 r.last later)

gate_once : (line : ℕ) (r : NetReading) (words : List (List ℕ)) → StateOnce r → IfOk (gate_says line r words) StateOnce
gate_once line r [] once = tt
gate_once line r (w ∷ ws) once = gate_of_kind_once line r w ws (gate_kind_of w) once

-- ---- covers
signals_once : (line : ℕ) (n : NetlistData) (signals : List (Option SignalNo)) (words : List (List ℕ)) → NamesOnce n → IfOk (cover_signals line n signals words) (Beside {X = List (Option SignalNo)})
signals_once line n signals [] once = once
signals_once line n signals (w ∷ ws) once =
    either (Beside {X = List (Option SignalNo)}) (nat_lt 4 (length signals)) (Err (TooWide line)) (cover_signals line (named n w) (signals ++ Some (signal_of n w) ∷ []) ws) tt
    (signals_once line (named n w) (signals ++ Some (signal_of n w) ∷ []) ws (names_once n.names w once))

cover_once : (line : ℕ) (r : NetReading) (n : NetlistData) (signals : List (Option SignalNo)) → NamesOnce n → IfOk (cover_of line r n signals) StateOnce
cover_once line r n [] once = tt
cover_once line r n (s ∷ signals) once = finished_once n r.last once

covers_once : (line : ℕ) (r : NetReading) (words : List (List ℕ)) → StateOnce r → IfOk (names_say line r words) StateOnce
covers_once line r words once =
    bind_keeps (Beside {X = List (Option SignalNo)}) StateOnce (cover_signals line r.netlist [] words) (λ c. cover_of line r c.0 c.1) (signals_once line r.netlist [] words once)
    (λ c later. cover_once line r c.0 c.1 later)

-- ---- lines
row_line_once : (line : ℕ) (r : NetReading) (last : LastCell) (first : List ℕ) (others : List (List ℕ)) → StateOnce r → IfOk (row_line line r last first others) StateOnce
row_line_once line r Nothing first others once = tt
row_line_once line r (Gate cell) first others once = tt
row_line_once line r Memory first others once = tt
row_line_once line r (Rows cover) first others once =
    bind_keeps (λ c. Unit {0}) StateOnce (cover_row_says line cover first others) (λ c. Ok (record { netlist = r.netlist; last = Rows c; rows = true })) (any_ok (cover_row_says line cover first others)) (λ c kept. once)

row_once : (line : ℕ) (r : NetReading) (first : List ℕ) (others : List (List ℕ)) → StateOnce r → IfOk (row_or_fault line r first others) StateOnce
row_once line r first others once = either StateOnce r.rows (row_line line r r.last first others) (Err (UnknownDirective line)) (row_line_once line r r.last first others once) tt

port_directive_once : (line : ℕ) (way : Way) (r : NetReading) (names : List (List ℕ)) → StateOnce r → IfOk (port_directive_says line way r names) StateOnce
port_directive_once line way r names once =
    bind_keeps NamesOnce StateOnce (ports_say line way r.netlist names) (λ n. Ok (without_rows n r.last)) (ports_once line way r.netlist names once) (λ n later. later)

param_directive_once : (line : ℕ) (r : NetReading) (words : List (List ℕ)) → StateOnce r → IfOk (param_directive_says line r words) StateOnce
param_directive_once line r words once =
    bind_keeps (λ now. Unit {0}) StateOnce (param_says line r.last words) (λ last. Ok (without_rows r.netlist last)) (any_ok (param_says line r.last words)) (λ now kept. once)

directive_once : (line : ℕ) (r : NetReading) (first : List ℕ) (others : List (List ℕ)) → StateOnce r → IfOk (directive_says line r first others) StateOnce
directive_once line r first others once =
    either StateOnce (bytes_eq first (codes ".gate") || bytes_eq first (codes ".subckt")) (gate_says line r others) _ (gate_once line r others once)
    (either StateOnce (bytes_eq first (codes ".names")) (names_say line r others) _ (covers_once line r others once)
    (either StateOnce (bytes_eq first (codes ".param")) (param_directive_says line r others) _ (param_directive_once line r others once)
    (either StateOnce (bytes_eq first (codes ".attr") || bytes_eq first (codes ".cname")) (Ok (without_rows r.netlist r.last)) _ once
    (either StateOnce (bytes_eq first (codes ".inputs")) (port_directive_says line Input r others) _ (port_directive_once line Input r others once)
    (either StateOnce (bytes_eq first (codes ".outputs")) (port_directive_says line Output r others) _ (port_directive_once line Output r others once)
    (either StateOnce (bytes_eq first (codes ".model")) (Err (SecondModel line)) (Err (UnknownDirective line)) tt tt))))))

line_once : (l : FilledLine) (r : NetReading) → StateOnce r → IfOk (line_says no_limits l r) StateOnce
line_once l r once =
    bind_keeps StateOnce StateOnce (if begins_with 46 l.first then directive_says l.number r l.first l.others else row_or_fault l.number r l.first l.others) (no_limits l.number)
    (either StateOnce (begins_with 46 l.first) (directive_says l.number r l.first l.others) (row_or_fault l.number r l.first l.others) (directive_once l.number r l.first l.others once) (row_once l.number r l.first l.others once))
    (λ s later. later)

-- ---- the text
ended_once : (r : NetReading) (ls : List FilledLine) → StateOnce r → IfOk (ended r ls) NamesOnce
ended_once r ls once =
    bind_keeps (λ u. Unit {0}) NamesOnce (after_end ls) (λ u. Ok (finished r.netlist r.last)) (any_ok (after_end ls)) (λ u kept. finished_once r.netlist r.last once)

model_once : (last : ℕ) (ls : List FilledLine) (r : NetReading) → StateOnce r → IfOk (model_says no_limits last r ls) NamesOnce
model_once last [] r once = tt
model_once last (l ∷ ls) r once =
    either NamesOnce (bytes_eq l.first (codes ".end")) (ended r ls) (line_says no_limits l r >>= (λ s. model_says no_limits last s ls)) (ended_once r ls once)
    (bind_keeps StateOnce NamesOnce (line_says no_limits l r) (λ s. model_says no_limits last s ls) (line_once l r once) (λ s later. model_once last ls s later))

lines_once : (last : ℕ) (ls : List FilledLine) → IfOk (lines_say no_limits last ls) NamesOnce
lines_once last [] = tt
lines_once last (l ∷ ls) =
    either NamesOnce (bytes_eq l.first (codes ".model")) (model_says no_limits last empty_reader ls) (Err (NoModel l.number)) (model_once last ls empty_reader empty_single.names) tt

-- hidden names are new, or those of signals that are there
hidden_once : HiddenKeep (λ names. IsDistinct bytes_eq names)
hidden_once names line once = (names_once names (hidden_name line (codes "in")) once, names_once names (hidden_name line (codes "out")) once)

pub texts_name_once : TextsNameOnce
texts_name_once text n has =
    let raw : NetlistData = has.0 in
    let once : NamesOnce raw =
    subst (λ (x : Result NetlistData BlifFault). IfOk x NamesOnce) has.1 (lines_once (last_number 0 (numbered 1 (lines text))) (filled (joined (numbered 1 (lines text))))) in
    subst NamesOnce (sym has.2) (all_keep (λ names. IsDistinct bytes_eq names) hidden_once (without_cells raw) raw.cells once)
