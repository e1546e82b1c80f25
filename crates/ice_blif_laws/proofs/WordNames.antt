-- The names of a netlist that is read are words of its text, or what stands behind the `=` of one, or hidden.
use Rattle.std.proofs.Common.{◌≡◌, inl, inr, ℕ, ◌+◌, Bool, true, false, ◌||◌, List, [], ◌∷◌, ◌++◌, length, drop, take, nat_lt, nat_le, Option, Some, None, Result, Ok, Err, IfOk, if◌then◌else◌, codes, bytes_eq, refl, sym, subst, arith}
use Rattle.std.specs.List.{AllByRecursion, list_any}
use Rattle.std.proofs.lemmas.List.Elements.{All-from_recursion}
use Rattle.ice_base.specs.Text.{lines, numbered, begins_with}
use Rattle.ice_base.specs.Lines.{IsWord}
use Rattle.ice_base.specs.Lists.{with_name, number_of_name}
use Rattle.ice_base.specs.declared.number.SignalNo.{SignalNo}
use Rattle.ice_base.proofs.TextLines.{all_append}
use Rattle.ice_net.specs.declared.port.Way.{Way}
use Rattle.ice_net.specs.declared.port.Way.TheVariants.{Input, Output}
use Rattle.ice_net.specs.NetlistData.{NetlistData}
use Rattle.ice_net.specs.Ways.{way_of}
use Rattle.ice_blif.specs.declared.fault.BlifFault.{BlifFault}
use Rattle.ice_blif.specs.declared.fault.BlifFault.TheVariants.{NoModel, SecondModel, UnknownDirective, PortTwice, TooWide, TooMany}
use Rattle.ice_blif.specs.GateForms.{GateForm}
use Rattle.ice_blif.specs.Gates.{gate_kind_of}
use Rattle.ice_blif.specs.State.{named, signal_of, LastCell, Nothing, Gate, Rows, finished, Memory}
use Rattle.ice_blif.specs.Reading.{NetReading, Connections}
use Rattle.ice_blif.specs.JoinedLines.{FilledLine, joined, filled, last_number}
use Rattle.ice_blif.specs.Cells.{◌>>=◌, cover_row_says, param_says, count_of}
use Rattle.ice_blif.specs.Grammar.{was_named, with_named_port, port_says, ports_say, no_wiring, is_missing, after_actual, connect_at, connect_by, equals_at, connection_says, connections_say, cell_of, with_last, without_rows, gate_of_kind, gate_says, cover_signals, new_cover, cover_of, names_say, row_line, row_or_fault, port_directive_says, param_directive_says, directive_says, within_limits, line_says, after_end, ended, model_says, empty_reader, lines_say, text_says, ram_of_word}
use Rattle.ice_blif.specs.Registers.{hidden_name, without_cells}
use Rattle.ice_blif.specs.FewSignals.{taken_apart_says}
use Rattle.ice_blif.specs.Formals.{FormalsForm, formal_place, formal_ins, of_gate, of_ram}
use Rattle.ice_ram_words.specs.declared.kind.Edges.{Edges}
use Rattle.ice_ram_words.specs.Words.{edges_of}
use Rattle.ice_blif.proofs.Apart.{HiddenKeep, all_keep, said_apart}
use Rattle.ice_blif.proofs.Growing.{text_small}
use Rattle.ice_blif.proofs.Kept.{bind_keeps, either, any_ok, bound}
use Rattle.ice_blif.proofs.OpenCells.{finished_names}
use Rattle.ice_blif_laws.specs.ReadNames.{IsHidden, IsReadName, ReadNamesAreKnown}
use Rattle.ice_blif_laws.proofs.WordLines.{rec_drop, IsWhole, AreWords, IsWordLine, text_lines}

-- ---- netlists
-- the names are words
abbrev NamesWords : NetlistData → Type 0
NamesWords n = AreWords n.names

named_words : (n : NetlistData) (name : List ℕ) → IsWord name → NamesWords n → NamesWords (named n name)
named_words n name word all = by (list_any (bytes_eq name) n.names)
  where
    by : (b : Bool) → AreWords (if b then n.names else n.names ++ name ∷ [])
    by true = all
    by false = all_append IsWord n.names (name ∷ []) all (word, tt)

port_words : (line : ℕ) (way : Way) (n : NetlistData) (name : List ℕ) → IsWord name → NamesWords n → IfOk (port_says line way n name) NamesWords
port_words line way n name word all =
    either NamesWords (was_named way (way_of n.ports (number_of_name n.names name))) (Err (PortTwice line)) (Ok (with_named_port n way name)) tt (named_words n name word all)

ports_words : (line : ℕ) (way : Way) (n : NetlistData) (names : List (List ℕ)) → AreWords names → NamesWords n → IfOk (ports_say line way n names) NamesWords
ports_words line way n [] words all = all
ports_words line way n (name ∷ names) words all =
    bind_keeps NamesWords NamesWords (port_says line way n name) (λ m. ports_say line way m names) (port_words line way n name words.0 all) (λ m kept. ports_words line way m names words.1 kept)

abbrev BesideWords : {X : Type 0} → NetlistData × X → Type 0
BesideWords c = NamesWords c.0

-- what is not empty is a word, where no byte ends one
whole_word : (actual : List ℕ) (output : Bool) → is_missing output actual ≡ false → IsWhole actual → IsWord actual
whole_word [] output e whole = cc e
whole_word (b ∷ bytes) output e whole = (omega arith, whole)

actual_words : (n : NetlistData) (output : Bool) (actual : List ℕ) → IsWhole actual → NamesWords n → NamesWords (after_actual n output actual)
actual_words n output actual whole all = by (is_missing output actual) refl
  where
    by : (b : Bool) → is_missing output actual ≡ b → NamesWords (if b then n else named n actual)
    by true e = all
    by false e = named_words n actual (whole_word actual output e whole) all

connect_at_words : (line : ℕ) (formals : FormalsForm) (n : NetlistData) (wiring : Connections) (actual : List ℕ) (place : Option ℕ) → IsWhole actual → NamesWords n
    → IfOk (connect_at line formals n wiring actual place) (BesideWords {X = Connections})
connect_at_words line formals n wiring actual None whole all = tt
connect_at_words line formals n wiring actual (Some place) whole all = actual_words n (nat_le (formal_ins formals) place) actual whole all

connect_words : (line : ℕ) (formals : FormalsForm) (n : NetlistData) (wiring : Connections) (word : List ℕ) (at : Option ℕ) → IsWhole word → NamesWords n
    → IfOk (connect_by line formals n wiring word at) (BesideWords {X = Connections})
connect_words line formals n wiring word None whole all = tt
connect_words line formals n wiring word (Some at) whole all = connect_at_words line formals n wiring (drop (at + 1) word) (formal_place formals (take at word)) (rec_drop _ (at + 1) word whole) all

connections_words : (line : ℕ) (formals : FormalsForm) (n : NetlistData) (wiring : Connections) (words : List (List ℕ)) → AreWords words → NamesWords n
    → IfOk (connections_say line formals n wiring words) (BesideWords {X = Connections})
connections_words line formals n wiring [] words all = either (BesideWords {X = Connections}) wiring.twice (Err (PortTwice line)) (Ok (n, wiring)) tt all
connections_words line formals n wiring (w ∷ ws) words all =
    bind_keeps (BesideWords {X = Connections}) (BesideWords {X = Connections}) (connection_says line formals n wiring w) (λ c. connections_say line formals c.0 c.1 ws)
    (connect_words line formals n wiring w (equals_at w) words.0.1 all) (λ c kept. connections_words line formals c.0 c.1 ws words.1 kept)

cover_signals_words : (line : ℕ) (n : NetlistData) (signals : List (Option SignalNo)) (words : List (List ℕ)) → AreWords words → NamesWords n
    → IfOk (cover_signals line n signals words) (BesideWords {X = List (Option SignalNo)})
cover_signals_words line n signals [] words all = all
cover_signals_words line n signals (w ∷ ws) words all =
    either (BesideWords {X = List (Option SignalNo)}) (nat_lt 4 (length signals)) (Err (TooWide line)) (cover_signals line (named n w) (signals ++ Some (signal_of n w) ∷ []) ws) tt
    (cover_signals_words line (named n w) (signals ++ Some (signal_of n w) ∷ []) ws words.1 (named_words n w words.0 all))

-- ---- states
abbrev StateWords : NetReading → Type 0
StateWords r = NamesWords r.netlist

last_words : (n : NetlistData) (before now : LastCell) (rows : Bool) → NamesWords n → StateWords (with_last n before now rows)
last_words n before now rows all = subst AreWords (sym (finished_names n before)) all

ram_words : (line : ℕ) (r : NetReading) (words : List (List ℕ)) (edges : Option Edges) → AreWords words → StateWords r → IfOk (ram_of_word line r words edges) StateWords
ram_words line r words None are all = tt
ram_words line r words (Some edges) are all =
    bind_keeps (BesideWords {X = Connections}) StateWords (connections_say line (of_ram edges) r.netlist no_wiring words) (λ c. Ok (with_last c.0 r.last Memory false))
    (connections_words line (of_ram edges) r.netlist no_wiring words are all) (λ c kept. last_words c.0 r.last Memory false kept)

gate_of_kind_words : (line : ℕ) (r : NetReading) (word : List ℕ) (words : List (List ℕ)) (gate : Option GateForm) → AreWords words → StateWords r → IfOk (gate_of_kind line r word words gate) StateWords
gate_of_kind_words line r word words None are all = ram_words line r words (edges_of word) are all
gate_of_kind_words line r word words (Some gate) are all =
    bind_keeps (BesideWords {X = Connections}) StateWords (connections_say line (of_gate gate) r.netlist no_wiring words) (λ c. Ok (with_last c.0 r.last (Gate (cell_of line gate c.1)) false))
    (connections_words line (of_gate gate) r.netlist no_wiring words are all) (λ c kept. last_words c.0 r.last (Gate (cell_of line gate c.1)) false kept)

gate_words : (line : ℕ) (r : NetReading) (words : List (List ℕ)) → AreWords words → StateWords r → IfOk (gate_says line r words) StateWords
gate_words line r [] are all = tt
gate_words line r (w ∷ ws) are all = gate_of_kind_words line r w ws (gate_kind_of w) are.1 all

cover_words : (line : ℕ) (r : NetReading) (n : NetlistData) (signals : List (Option SignalNo)) → NamesWords n → IfOk (cover_of line r n signals) StateWords
cover_words line r n [] all = tt
cover_words line r n (s ∷ signals) all = last_words n r.last (Rows (new_cover line (s ∷ signals))) true all

names_words : (line : ℕ) (r : NetReading) (words : List (List ℕ)) → AreWords words → StateWords r → IfOk (names_say line r words) StateWords
names_words line r words are all =
    bind_keeps (BesideWords {X = List (Option SignalNo)}) StateWords (cover_signals line r.netlist [] words) (λ c. cover_of line r c.0 c.1) (cover_signals_words line r.netlist [] words are all)
    (λ c kept. cover_words line r c.0 c.1 kept)

row_line_words : (line : ℕ) (r : NetReading) (last : LastCell) (first : List ℕ) (others : List (List ℕ)) → StateWords r → IfOk (row_line line r last first others) StateWords
row_line_words line r Nothing first others all = tt
row_line_words line r (Gate cell) first others all = tt
row_line_words line r Memory first others all = tt
row_line_words line r (Rows cover) first others all =
    bind_keeps (λ c. Unit {0}) StateWords (cover_row_says line cover first others) (λ c. Ok (record { netlist = r.netlist; last = Rows c; rows = true })) (any_ok (cover_row_says line cover first others)) (λ c kept. all)

row_words : (line : ℕ) (r : NetReading) (first : List ℕ) (others : List (List ℕ)) → StateWords r → IfOk (row_or_fault line r first others) StateWords
row_words line r first others all = either StateWords r.rows (row_line line r r.last first others) (Err (UnknownDirective line)) (row_line_words line r r.last first others all) tt

port_directive_words : (line : ℕ) (way : Way) (r : NetReading) (names : List (List ℕ)) → AreWords names → StateWords r → IfOk (port_directive_says line way r names) StateWords
port_directive_words line way r names are all =
    bind_keeps NamesWords StateWords (ports_say line way r.netlist names) (λ n. Ok (without_rows n r.last)) (ports_words line way r.netlist names are all) (λ n kept. kept)

param_directive_words : (line : ℕ) (r : NetReading) (words : List (List ℕ)) → StateWords r → IfOk (param_directive_says line r words) StateWords
param_directive_words line r words all =
    bind_keeps (λ now. Unit {0}) StateWords (param_says line r.last words) (λ last. Ok (without_rows r.netlist last)) (any_ok (param_says line r.last words)) (λ now kept. all)

directive_words : (line : ℕ) (r : NetReading) (first : List ℕ) (others : List (List ℕ)) → AreWords others → StateWords r → IfOk (directive_says line r first others) StateWords
directive_words line r first others are all =
    either StateWords (bytes_eq first (codes ".gate") || bytes_eq first (codes ".subckt")) (gate_says line r others) _ (gate_words line r others are all)
    (either StateWords (bytes_eq first (codes ".names")) (names_say line r others) _ (names_words line r others are all)
    (either StateWords (bytes_eq first (codes ".param")) (param_directive_says line r others) _ (param_directive_words line r others all)
    (either StateWords (bytes_eq first (codes ".attr") || bytes_eq first (codes ".cname")) (Ok (without_rows r.netlist r.last)) _ all
    (either StateWords (bytes_eq first (codes ".inputs")) (port_directive_says line Input r others) _ (port_directive_words line Input r others are all)
    (either StateWords (bytes_eq first (codes ".outputs")) (port_directive_says line Output r others) _ (port_directive_words line Output r others are all)
    (either StateWords (bytes_eq first (codes ".model")) (Err (SecondModel line)) (Err (UnknownDirective line)) tt tt))))))

-- ---- the lines of a model
limits_words : (line : ℕ) (r : NetReading) → StateWords r → IfOk (within_limits line r) StateWords
limits_words line r all =
    either StateWords (nat_lt 65534 (length r.netlist.names)) (Err (TooMany line 65534)) _ tt
    (either StateWords (nat_lt 1048576 (length r.netlist.cells + count_of r.last)) (Err (TooMany line 1048576)) (Ok r) tt all)

line_words : (l : FilledLine) (r : NetReading) → IsWordLine l → StateWords r → IfOk (line_says within_limits l r) StateWords
line_words l r are all =
    bind_keeps StateWords StateWords (if begins_with 46 l.first then directive_says l.number r l.first l.others else row_or_fault l.number r l.first l.others) (within_limits l.number)
    (either StateWords (begins_with 46 l.first) (directive_says l.number r l.first l.others) (row_or_fault l.number r l.first l.others) (directive_words l.number r l.first l.others are.others all) (row_words l.number r l.first l.others all))
    (λ s kept. limits_words l.number s kept)

ended_words : (r : NetReading) (ls : List FilledLine) → StateWords r → IfOk (ended r ls) NamesWords
ended_words r ls all =
    bind_keeps (λ u. Unit {0}) NamesWords (after_end ls) (λ u. Ok (finished r.netlist r.last)) (any_ok (after_end ls)) (λ u kept. subst AreWords (sym (finished_names r.netlist r.last)) all)

model_words : (last : ℕ) (r : NetReading) (ls : List FilledLine) → AllByRecursion IsWordLine ls → StateWords r → IfOk (model_says within_limits last r ls) NamesWords
model_words last r [] are all = tt
model_words last r (l ∷ ls) are all =
    either NamesWords (bytes_eq l.first (codes ".end")) (ended r ls) (line_says within_limits l r >>= (λ s. model_says within_limits last s ls)) (ended_words r ls all)
    (bind_keeps StateWords NamesWords (line_says within_limits l r) (λ s. model_says within_limits last s ls) (line_words l r are.0 all) (λ s kept. model_words last s ls are.1 kept))

lines_words : (last : ℕ) (ls : List FilledLine) → AllByRecursion IsWordLine ls → IfOk (lines_say within_limits last ls) NamesWords
lines_words last [] are = tt
lines_words last (l ∷ ls) are = either NamesWords (bytes_eq l.first (codes ".model")) (model_says within_limits last empty_reader ls) (Err (NoModel l.number)) (model_words last empty_reader ls are.1 tt) tt

-- ---- the text
-- the names are words, or hidden
abbrev AreReadNames : List (List ℕ) → Type 0
AreReadNames names = AllByRecursion IsReadName names

words_are_read : (names : List (List ℕ)) → AreWords names → AreReadNames names
words_are_read [] are = tt
words_are_read (name ∷ names) are = (inl are.0, words_are_read names are.1)

with_read : (names : List (List ℕ)) (name : List ℕ) → IsHidden name → AreReadNames names → AreReadNames (with_name names name)
with_read names name is are = by (list_any (bytes_eq name) names)
  where
    by : (b : Bool) → AreReadNames (if b then names else names ++ name ∷ [])
    by true = are
    by false = all_append IsReadName names (name ∷ []) are (inr is, tt)

hidden_read : HiddenKeep AreReadNames
hidden_read names line are = (
  with_read names (hidden_name line (codes "in")) (record { line = line; is = inl refl }) are,
  with_read names (hidden_name line (codes "out")) (record { line = line; is = inr refl }) are,
)

pub read_names : ReadNamesAreKnown
read_names text n e =
    let parts = bound (text_says within_limits text) taken_apart_says n e in
    let raw : NetlistData = parts.value in
    let words : NamesWords raw =
    subst (λ (x : Result NetlistData BlifFault). IfOk x NamesWords) parts.made (lines_words (last_number 0 (numbered 1 (lines text))) (filled (joined (numbered 1 (lines text)))) (text_lines text)) in
    All-from_recursion IsReadName n.names
    (subst (λ (m : NetlistData). AreReadNames m.names) (sym (said_apart (without_cells raw) raw.cells n (text_small text raw parts.made).signals parts.goes_on).apart) (all_keep AreReadNames hidden_read (without_cells raw) raw.cells (words_are_read raw.names words)))
