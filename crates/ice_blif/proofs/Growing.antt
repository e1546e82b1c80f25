-- A netlist grows line by line, so one that ends within the limits was within them at each line.
use Rattle.std.proofs.Common.{◌≡◌, ℕ, ◌+◌, ◌≤◌, Bool, true, false, ◌||◌, List, [], ◌∷◌, ◌++◌, length, drop, take, nat_lt, nat_le, Option, Some, None, Result, Ok, Err, IfOk, if◌then◌else◌, codes, bytes_eq, refl, sym, ap, subst, ◌∙◌, arith, rules, tests}
use Rattle.ice_base.specs.Text.{lines, numbered, begins_with}
use Rattle.ice_base.specs.Lists.{number_of_name}
use Rattle.ice_base.specs.declared.number.SignalNo.{SignalNo}
use Rattle.ice_net.specs.declared.port.Way.{Way}
use Rattle.ice_net.specs.declared.port.Way.TheVariants.{Input, Output}
use Rattle.ice_net.specs.NetlistData.{NetlistData}
use Rattle.ice_net.specs.Ways.{way_of}
use Rattle.ice_net.proofs.NetlistLaws.{names_grow}
use Rattle.ice_blif.specs.declared.fault.BlifFault.{BlifFault}
use Rattle.ice_blif.specs.declared.fault.BlifFault.TheVariants.{NoModel, SecondModel, UnknownDirective, PortTwice, TooWide, TooMany}
use Rattle.ice_blif.specs.JoinedLines.{FilledLine, joined, filled, last_number}
use Rattle.ice_blif.specs.State.{LastCell, Nothing, Gate, Rows, named, signal_of, with_kind, finished, Memory}
use Rattle.ice_blif.specs.Reading.{NetReading, Connections}
use Rattle.ice_blif.specs.Cells.{◌>>=◌, cover_row_says, kind_says, param_says, count_of, IsWithin, IsRawWithin, memory_says}
use Rattle.ice_blif.specs.Grammar.{was_named, with_named_port, port_says, ports_say, no_wiring, is_missing, after_actual, connect_at, connect_by, equals_at, connection_says, connections_say, cell_of, with_last, without_rows, gate_of_kind, gate_says, cover_signals, new_cover, cover_of, names_say, row_line, row_or_fault, port_directive_says, param_directive_says, directive_says, within_limits, no_limits, line_says, after_end, ended, model_says, empty_reader, lines_say, text_says, ram_of_word}
use Rattle.ice_ram_words.specs.declared.kind.Edges.{Edges}
use Rattle.ice_ram_words.specs.Words.{edges_of}
use Rattle.ice_blif.specs.declared.kind.GateKind.{GateKind}
use Rattle.ice_blif.specs.declared.kind.Formals.{Formals}
use Rattle.ice_blif.specs.declared.kind.Formals.TheVariants.{OfGate, OfRam}
use Rattle.ice_blif.specs.Gates.{gate_kind_of}
use Rattle.ice_blif.specs.Formals.{formal_place, formal_ins}
use Rattle.ice_blif.proofs.Kept.{bind_keeps, either, any_ok, weaker, bound}
use Rattle.ice_blif.proofs.OpenCells.{finished_names, finished_count, finished_within}

-- ---- netlists
-- the names are as many or more, and the cells are the same
pub record NetGrows (n m : NetlistData) : Type 0 where
  pub names : length n.names ≤ length m.names
  pub cells : m.cells ≡ n.cells

net_same : (n : NetlistData) → NetGrows n n
net_same n = record { names = omega arith; cells = refl }

net_then : (n m : NetlistData) → NetGrows n m → (p : NetlistData) → NetGrows m p → NetGrows n p
net_then n m g p h = record { names = omega (arith, g.names, h.names); cells = h.cells ∙ g.cells }

named_grows : (n : NetlistData) (name : List ℕ) → NetGrows n (named n name)
named_grows n name = record { names = (names_grow n.names name).0; cells = refl }

port_grows : (line : ℕ) (way : Way) (n : NetlistData) (name : List ℕ) → IfOk (port_says line way n name) (NetGrows n)
port_grows line way n name =
    either (NetGrows n) (was_named way (way_of n.ports (number_of_name n.names name))) (Err (PortTwice line)) (Ok (with_named_port n way name)) tt
    (record { names = (names_grow n.names name).0; cells = refl })

ports_grow : (line : ℕ) (way : Way) (n : NetlistData) (names : List (List ℕ)) → IfOk (ports_say line way n names) (NetGrows n)
ports_grow line way n [] = net_same n
ports_grow line way n (name ∷ names) =
    bind_keeps (NetGrows n) (NetGrows n) (port_says line way n name) (λ m. ports_say line way m names) (port_grows line way n name)
    (λ m g. weaker (NetGrows m) (NetGrows n) (ports_say line way m names) (net_then n m g) (ports_grow line way m names))

abbrev GrowsBeside : {X : Type 0} → NetlistData → NetlistData × X → Type 0
GrowsBeside n c = NetGrows n c.0

actual_grows : (n : NetlistData) (output : Bool) (actual : List ℕ) → NetGrows n (after_actual n output actual)
actual_grows n output actual = by (is_missing output actual)
  where
    by : (b : Bool) → NetGrows n (if b then n else named n actual)
    by true = net_same n
    by false = named_grows n actual

connect_at_grows : (line : ℕ) (formals : Formals) (n : NetlistData) (wiring : Connections) (actual : List ℕ) (place : Option ℕ) → IfOk (connect_at line formals n wiring actual place) (GrowsBeside {X = Connections} n)
connect_at_grows line formals n wiring actual None = tt
connect_at_grows line formals n wiring actual (Some place) = actual_grows n (nat_le (formal_ins formals) place) actual

connect_grows : (line : ℕ) (formals : Formals) (n : NetlistData) (wiring : Connections) (word : List ℕ) (at : Option ℕ) → IfOk (connect_by line formals n wiring word at) (GrowsBeside {X = Connections} n)
connect_grows line formals n wiring word None = tt
connect_grows line formals n wiring word (Some at) = connect_at_grows line formals n wiring (drop (at + 1) word) (formal_place formals (take at word))

connections_grow : (line : ℕ) (formals : Formals) (n : NetlistData) (wiring : Connections) (words : List (List ℕ)) → IfOk (connections_say line formals n wiring words) (GrowsBeside {X = Connections} n)
connections_grow line formals n wiring [] = either (GrowsBeside {X = Connections} n) wiring.twice (Err (PortTwice line)) (Ok (n, wiring)) tt (net_same n)
connections_grow line formals n wiring (w ∷ ws) =
    bind_keeps (GrowsBeside {X = Connections} n) (GrowsBeside {X = Connections} n) (connection_says line formals n wiring w) (λ c. connections_say line formals c.0 c.1 ws) (connect_grows line formals n wiring w (equals_at w))
    (λ c g. weaker (GrowsBeside {X = Connections} c.0) (GrowsBeside {X = Connections} n) (connections_say line formals c.0 c.1 ws) (λ d h. net_then n c.0 g d.0 h) (connections_grow line formals c.0 c.1 ws))

cover_signals_grow : (line : ℕ) (n : NetlistData) (signals : List (Option SignalNo)) (words : List (List ℕ)) → IfOk (cover_signals line n signals words) (GrowsBeside {X = List (Option SignalNo)} n)
cover_signals_grow line n signals [] = net_same n
cover_signals_grow line n signals (w ∷ ws) =
    let rest = cover_signals line (named n w) (signals ++ Some (signal_of n w) ∷ []) ws in
    either (GrowsBeside {X = List (Option SignalNo)} n) (nat_lt 4 (length signals)) (Err (TooWide line)) rest tt
    (weaker (GrowsBeside {X = List (Option SignalNo)} (named n w)) (GrowsBeside {X = List (Option SignalNo)} n) rest (λ d h. net_then n (named n w) (named_grows n w) d.0 h)
    (cover_signals_grow line (named n w) (signals ++ Some (signal_of n w) ∷ []) ws))

-- ---- states
-- the names are as many or more, and so are the cells with the last
pub record Grows (r s : NetReading) : Type 0 where
  pub names : length r.netlist.names ≤ length s.netlist.names
  pub cells : length r.netlist.cells + count_of r.last ≤ length s.netlist.cells + count_of s.last

state_same : (r : NetReading) (rows : Bool) → Grows r (record { netlist = r.netlist; last = r.last; rows = rows })
state_same r rows = record { names = omega arith; cells = omega arith }

net_in_state : (r : NetReading) (n : NetlistData) → NetGrows r.netlist n → Grows r (without_rows n r.last)
net_in_state r n g = record { names = g.names; cells = let same = ap (λ cells. length cells) g.cells in omega (arith, same) }

-- the last cell joins the others, and a new one is last
joined_grows : (r : NetReading) (n : NetlistData) (now : LastCell) (rows : Bool) → NetGrows r.netlist n → Grows r (with_last n r.last now rows)
joined_grows r n now rows g = record {
  names = rw (finished_names n r.last) g.names;
  cells = let same = ap (λ cells. length cells) g.cells in omega (arith, finished_count n r.last, same);
}

ram_grows : (line : ℕ) (r : NetReading) (words : List (List ℕ)) (edges : Option Edges) → IfOk (ram_of_word line r words edges) (Grows r)
ram_grows line r words None = tt
ram_grows line r words (Some edges) =
    bind_keeps (GrowsBeside {X = Connections} r.netlist) (Grows r) (connections_say line (OfRam edges) r.netlist no_wiring words) (λ c. Ok (with_last c.0 r.last Memory false))
    (connections_grow line (OfRam edges) r.netlist no_wiring words) (λ c g. joined_grows r c.0 Memory false g)

gate_of_kind_grows : (line : ℕ) (r : NetReading) (word : List ℕ) (words : List (List ℕ)) (gate : Option GateKind) → IfOk (gate_of_kind line r word words gate) (Grows r)
gate_of_kind_grows line r word words None = ram_grows line r words (edges_of word)
gate_of_kind_grows line r word words (Some gate) =
    bind_keeps (GrowsBeside {X = Connections} r.netlist) (Grows r) (connections_say line (OfGate gate) r.netlist no_wiring words) (λ c. Ok (with_last c.0 r.last (Gate (cell_of line gate c.1)) false))
    (connections_grow line (OfGate gate) r.netlist no_wiring words) (λ c g. joined_grows r c.0 (Gate (cell_of line gate c.1)) false g)

gate_grows : (line : ℕ) (r : NetReading) (words : List (List ℕ)) → IfOk (gate_says line r words) (Grows r)
gate_grows line r [] = tt
gate_grows line r (w ∷ ws) = gate_of_kind_grows line r w ws (gate_kind_of w)

cover_grows : (line : ℕ) (r : NetReading) (n : NetlistData) (signals : List (Option SignalNo)) → NetGrows r.netlist n → IfOk (cover_of line r n signals) (Grows r)
cover_grows line r n [] g = tt
cover_grows line r n (s ∷ signals) g = joined_grows r n (Rows (new_cover line (s ∷ signals))) true g

names_grow_state : (line : ℕ) (r : NetReading) (words : List (List ℕ)) → IfOk (names_say line r words) (Grows r)
names_grow_state line r words =
    bind_keeps (GrowsBeside {X = List (Option SignalNo)} r.netlist) (Grows r) (cover_signals line r.netlist [] words) (λ c. cover_of line r c.0 c.1) (cover_signals_grow line r.netlist [] words)
    (λ c g. cover_grows line r c.0 c.1 g)

-- the same netlist, with a last cell that counts as much
counted : (r : NetReading) (now : LastCell) (rows : Bool) → count_of now ≡ count_of r.last → Grows r (record { netlist = r.netlist; last = now; rows = rows })
counted r now rows e = record { names = omega arith; cells = omega (arith, e) }

row_line_grows : (line : ℕ) (r : NetReading) (last : LastCell) (first : List ℕ) (others : List (List ℕ)) → r.last ≡ last → IfOk (row_line line r last first others) (Grows r)
row_line_grows line r Nothing first others e = tt
row_line_grows line r (Gate cell) first others e = tt
row_line_grows line r Memory first others e = tt
row_line_grows line r (Rows cover) first others e =
    bind_keeps (λ c. Unit {0}) (Grows r) (cover_row_says line cover first others) (λ c. Ok (record { netlist = r.netlist; last = Rows c; rows = true })) (any_ok (cover_row_says line cover first others))
    (λ c kept. counted r (Rows c) true (sym (ap count_of e)))

row_grows : (line : ℕ) (r : NetReading) (first : List ℕ) (others : List (List ℕ)) → IfOk (row_or_fault line r first others) (Grows r)
row_grows line r first others = either (Grows r) r.rows (row_line line r r.last first others) (Err (UnknownDirective line)) (row_line_grows line r r.last first others refl) tt

port_directive_grows : (line : ℕ) (way : Way) (r : NetReading) (names : List (List ℕ)) → IfOk (port_directive_says line way r names) (Grows r)
port_directive_grows line way r names =
    bind_keeps (NetGrows r.netlist) (Grows r) (ports_say line way r.netlist names) (λ n. Ok (without_rows n r.last)) (ports_grow line way r.netlist names) (λ n g. net_in_state r n g)

-- a parameter leaves the last cell one cell
param_counts : (line : ℕ) (last : LastCell) (words : List (List ℕ)) → IfOk (param_says line last words) (λ now. count_of now ≡ count_of last)
param_counts line last [] = refl
param_counts line Nothing (name ∷ values) = refl
param_counts line (Gate cell) (name ∷ values) =
    bind_keeps (λ kind. Unit {0}) (λ now. count_of now ≡ 1) (kind_says line cell.kind name values) (λ kind. Ok (Gate (with_kind cell kind))) (any_ok (kind_says line cell.kind name values)) (λ kind kept. refl)
param_counts line Memory (name ∷ values) =
    bind_keeps (λ good. Unit {0}) (λ now. count_of now ≡ 0) (memory_says line name values) (λ good. Ok Memory) (any_ok (memory_says line name values)) (λ good kept. refl)
param_counts line (Rows cover) (name ∷ values) = refl

param_directive_grows : (line : ℕ) (r : NetReading) (words : List (List ℕ)) → IfOk (param_directive_says line r words) (Grows r)
param_directive_grows line r words =
    bind_keeps (λ now. count_of now ≡ count_of r.last) (Grows r) (param_says line r.last words) (λ last. Ok (without_rows r.netlist last)) (param_counts line r.last words)
    (λ now e. counted r now false e)

directive_grows : (line : ℕ) (r : NetReading) (first : List ℕ) (others : List (List ℕ)) → IfOk (directive_says line r first others) (Grows r)
directive_grows line r first others =
    either (Grows r) (bytes_eq first (codes ".gate") || bytes_eq first (codes ".subckt")) (gate_says line r others) _ (gate_grows line r others)
    (either (Grows r) (bytes_eq first (codes ".names")) (names_say line r others) _ (names_grow_state line r others)
    (either (Grows r) (bytes_eq first (codes ".param")) (param_directive_says line r others) _ (param_directive_grows line r others)
    (either (Grows r) (bytes_eq first (codes ".attr") || bytes_eq first (codes ".cname")) (Ok (without_rows r.netlist r.last)) _ (state_same r false)
    (either (Grows r) (bytes_eq first (codes ".inputs")) (port_directive_says line Input r others) _ (port_directive_grows line Input r others)
    (either (Grows r) (bytes_eq first (codes ".outputs")) (port_directive_says line Output r others) _ (port_directive_grows line Output r others)
    (either (Grows r) (bytes_eq first (codes ".model")) (Err (SecondModel line)) (Err (UnknownDirective line)) tt tt))))))

-- what a line says before its limits are looked at
abbrev told : FilledLine → NetReading → Result NetReading BlifFault
told l r = if begins_with 46 l.first then directive_says l.number r l.first l.others else row_or_fault l.number r l.first l.others

line_grows : (l : FilledLine) (r s : NetReading) → told l r ≡ Ok s → Grows r s
line_grows l r s e =
    subst (λ (x : Result NetReading BlifFault). IfOk x (Grows r)) e
    (either (Grows r) (begins_with 46 l.first) (directive_says l.number r l.first l.others) (row_or_fault l.number r l.first l.others) (directive_grows l.number r l.first l.others) (row_grows l.number r l.first l.others))

-- ---- the lines of a model
-- a netlist has at least what was read before
pub record Holds (r : NetReading) (n : NetlistData) : Type 0 where
  pub names : length r.netlist.names ≤ length n.names
  pub cells : length r.netlist.cells + count_of r.last ≤ length n.cells

same_netlist : (m n : NetlistData) → (let said : Result NetlistData BlifFault = Ok m in said) ≡ Ok n → m ≡ n
same_netlist m n e = cc

same_state : (r s : NetReading) → (let said : Result NetReading BlifFault = Ok r in said) ≡ Ok s → r ≡ s
same_state r s e = cc

ended_holds : (r : NetReading) (ls : List FilledLine) (n : NetlistData) → ended r ls ≡ Ok n → Holds r n
ended_holds r ls n e =
    let parts = bound (after_end ls) (λ u. Ok (finished r.netlist r.last)) n e in
    subst (Holds r) (same_netlist (finished r.netlist r.last) n parts.goes_on)
    (record { names = rw (finished_names r.netlist r.last) (omega arith); cells = omega (arith, finished_count r.netlist r.last) })

grown_holds : (r s : NetReading) (n : NetlistData) → Grows r s → Holds s n → Holds r n
grown_holds r s n g h = record { names = omega (arith, g.names, h.names); cells = omega (arith, g.cells, h.cells) }

-- a line without limits
plain_line : (l : FilledLine) (r s : NetReading) → line_says no_limits l r ≡ Ok s → told l r ≡ Ok s
plain_line l r s e = let parts = bound (told l r) (no_limits l.number) s e in parts.made ∙ ap Ok (same_state parts.value s parts.goes_on)

model_holds_by : (last : ℕ) (l : FilledLine) (ls : List FilledLine) (r : NetReading) (n : NetlistData) (b : Bool)
    → ((s : NetReading) → model_says no_limits last s ls ≡ Ok n → Holds s n)
    → (if b then ended r ls else line_says no_limits l r >>= (λ s. model_says no_limits last s ls)) ≡ Ok n → Holds r n
model_holds_by last l ls r n true rest e = ended_holds r ls n e
model_holds_by last l ls r n false rest e =
    let parts = bound (line_says no_limits l r) (λ s. model_says no_limits last s ls) n e in
    grown_holds r parts.value n (line_grows l r parts.value (plain_line l r parts.value parts.made)) (rest parts.value parts.goes_on)

model_holds : (last : ℕ) (ls : List FilledLine) (r : NetReading) (n : NetlistData) → model_says no_limits last r ls ≡ Ok n → Holds r n
model_holds last [] r n e = absurd (cc)
model_holds last (l ∷ ls) r n e = model_holds_by last l ls r n (bytes_eq l.first (codes ".end")) (λ s. model_holds last ls s n) e

within_by : (line : ℕ) (r : NetReading) → length r.netlist.names ≤ 65534 → length r.netlist.cells + count_of r.last ≤ 1048576 → within_limits line r ≡ Ok r
within_by line r names cells =
    let few : nat_lt 65534 (length r.netlist.names) ≡ false = search (rules, tests) in
    let few_cells : nat_lt 1048576 (length r.netlist.cells + count_of r.last) ≡ false = search (rules, tests) in
    rw (few, few_cells) refl

-- a state of a netlist within the limits is within them
state_within : (line : ℕ) (r : NetReading) (n : NetlistData) → IsRawWithin n → Holds r n → within_limits line r ≡ Ok r
state_within line r n small h = within_by line r (omega (arith, small.signals, h.names)) (omega (arith, small.cells, h.cells))

line_within : (l : FilledLine) (r s : NetReading) (n : NetlistData) → IsRawWithin n → Holds s n → line_says no_limits l r ≡ Ok s → line_says within_limits l r ≡ Ok s
line_within l r s n small h e = ap (λ x. x >>= within_limits l.number) (plain_line l r s e) ∙ state_within l.number s n small h

model_within_by : (last : ℕ) (l : FilledLine) (ls : List FilledLine) (r : NetReading) (n : NetlistData) (b : Bool) → IsRawWithin n
    → ((s : NetReading) → model_says no_limits last s ls ≡ Ok n → model_says within_limits last s ls ≡ Ok n)
    → (if b then ended r ls else line_says no_limits l r >>= (λ s. model_says no_limits last s ls)) ≡ Ok n
    → (if b then ended r ls else line_says within_limits l r >>= (λ s. model_says within_limits last s ls)) ≡ Ok n
model_within_by last l ls r n true small rest e = e
model_within_by last l ls r n false small rest e =
    let parts = bound (line_says no_limits l r) (λ s. model_says no_limits last s ls) n e in
    ap (λ x. x >>= (λ s. model_says within_limits last s ls)) (line_within l r parts.value n small (model_holds last ls parts.value n parts.goes_on) parts.made)
    ∙ rest parts.value parts.goes_on

model_within : (last : ℕ) (ls : List FilledLine) (r : NetReading) (n : NetlistData) → IsRawWithin n → model_says no_limits last r ls ≡ Ok n → model_says within_limits last r ls ≡ Ok n
model_within last [] r n small e = absurd (cc)
model_within last (l ∷ ls) r n small e = model_within_by last l ls r n (bytes_eq l.first (codes ".end")) small (λ s. model_within last ls s n small) e

lines_within_by : (last : ℕ) (l : FilledLine) (ls : List FilledLine) (n : NetlistData) (b : Bool) → IsRawWithin n
    → (if b then model_says no_limits last empty_reader ls else Err (NoModel l.number)) ≡ Ok n
    → (if b then model_says within_limits last empty_reader ls else Err (NoModel l.number)) ≡ Ok n
lines_within_by last l ls n true small e = model_within last ls empty_reader n small e
lines_within_by last l ls n false small e = absurd (cc)

lines_within : (last : ℕ) (ls : List FilledLine) (n : NetlistData) → IsRawWithin n → lines_say no_limits last ls ≡ Ok n → lines_say within_limits last ls ≡ Ok n
lines_within last [] n small e = absurd (cc)
lines_within last (l ∷ ls) n small e = lines_within_by last l ls n (bytes_eq l.first (codes ".model")) small e

-- what a text says without limits it says within them, where it is within them
pub text_within : (text : List ℕ) (raw : NetlistData) → text_says no_limits text ≡ Ok raw → IsRawWithin raw → text_says within_limits text ≡ Ok raw
text_within text raw said small = lines_within (last_number 0 (numbered 1 (lines text))) (filled (joined (numbered 1 (lines text)))) raw small said

-- ---- and back: what is read is within the limits
within_passes_by : (line : ℕ) (r s : NetReading) (b c : Bool) → nat_lt 65534 (length r.netlist.names) ≡ b → nat_lt 1048576 (length r.netlist.cells + count_of r.last) ≡ c
    → (let said : Result NetReading BlifFault = if b then Err (TooMany line 65534) else (if c then Err (TooMany line 1048576) else Ok r) in said) ≡ Ok s → IsWithin s
within_passes_by line r s true c few few_cells e = absurd (cc)
within_passes_by line r s false true few few_cells e = absurd (cc)
within_passes_by line r s false false few few_cells e =
    let names : length r.netlist.names ≤ 65534 = search (rules, tests) in
    let cells : length r.netlist.cells + count_of r.last ≤ 1048576 = search (rules, tests) in
    subst IsWithin (same_state r s e) (record { signals = names; cells = cells })

within_passes : (line : ℕ) (r s : NetReading) → within_limits line r ≡ Ok s → IsWithin s
within_passes line r s e = within_passes_by line r s (nat_lt 65534 (length r.netlist.names)) (nat_lt 1048576 (length r.netlist.cells + count_of r.last)) refl refl e

model_small_by : (last : ℕ) (l : FilledLine) (ls : List FilledLine) (r : NetReading) (n : NetlistData) (b : Bool) → IsWithin r
    → ((s : NetReading) → IsWithin s → model_says within_limits last s ls ≡ Ok n → IsRawWithin n)
    → (if b then ended r ls else line_says within_limits l r >>= (λ s. model_says within_limits last s ls)) ≡ Ok n → IsRawWithin n
model_small_by last l ls r n true w rest e =
    let parts = bound (after_end ls) (λ u. Ok (finished r.netlist r.last)) n e in
    subst IsRawWithin (same_netlist (finished r.netlist r.last) n parts.goes_on) (finished_within r w)
model_small_by last l ls r n false w rest e =
    let parts = bound (line_says within_limits l r) (λ s. model_says within_limits last s ls) n e in
    let limits = bound (told l r) (within_limits l.number) parts.value parts.made in
    rest parts.value (within_passes l.number limits.value parts.value limits.goes_on) parts.goes_on

model_small : (last : ℕ) (ls : List FilledLine) (r : NetReading) (n : NetlistData) → IsWithin r → model_says within_limits last r ls ≡ Ok n → IsRawWithin n
model_small last [] r n w e = absurd (cc)
model_small last (l ∷ ls) r n w e = model_small_by last l ls r n (bytes_eq l.first (codes ".end")) w (λ s v. model_small last ls s n v) e

lines_small_by : (last : ℕ) (l : FilledLine) (ls : List FilledLine) (n : NetlistData) (b : Bool)
    → (if b then model_says within_limits last empty_reader ls else Err (NoModel l.number)) ≡ Ok n → IsRawWithin n
lines_small_by last l ls n true e = model_small last ls empty_reader n (record { signals = omega arith; cells = omega arith }) e
lines_small_by last l ls n false e = absurd (cc)

lines_small : (last : ℕ) (ls : List FilledLine) (n : NetlistData) → lines_say within_limits last ls ≡ Ok n → IsRawWithin n
lines_small last [] n e = absurd (cc)
lines_small last (l ∷ ls) n e = lines_small_by last l ls n (bytes_eq l.first (codes ".model")) e

pub text_small : (text : List ℕ) (raw : NetlistData) → text_says within_limits text ≡ Ok raw → IsRawWithin raw
text_small text raw e = lines_small (last_number 0 (numbered 1 (lines text))) (filled (joined (numbered 1 (lines text)))) raw e
