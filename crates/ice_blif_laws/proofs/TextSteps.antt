-- What the reader takes of a netlist's ports, gates and covers is what the text says.
use Rattle.std.proofs.Common.{◌≡◌, ◌∙◌, ℕ, ◌+◌, ◌==◌, Bool, true, false, List, [], ◌∷◌, ◌++◌, length, position, take, drop, fold, slice_set, nat_lt, nat_le, Option, Some, None, option_map, Result, Ok, Err, IfOk, if◌then◌else◌, refl, ap, subst}
use Rattle.std.specs.Option.{option_and_then}
use Rattle.ice_base.specs.declared.number.SignalNo.{SignalNo}
use Rattle.ice_net.specs.declared.port.Way.{Way}
use Rattle.ice_net.specs.Kinds.{ins_count}
use Rattle.ice_net.specs.NetlistData.{NetlistData}
use Rattle.ice_net.specs.Ways.{way_of}
use Rattle.ice_base.specs.Lists.{number_of_name}
use Rattle.ice_blif.specs.declared.fault.BlifFault.{BlifFault}
use Rattle.ice_blif.specs.declared.fault.BlifFault.TheVariants.{PortTwice, BadCover, TooWide}
use Rattle.ice_blif.specs.GateForms.{GateForm}
use Rattle.ice_blif.specs.Gates.{gate_kind_of, gate_place}
use Rattle.ice_blif.specs.State.{OpenCover, LastCell, Nothing, Gate, Memory, Rows, named, signal_of, with_cover_row}
use Rattle.ice_blif.specs.Reading.{NetReading, Connections}
use Rattle.ice_blif.specs.Cells.{row_of_level, cover_row_of, cover_row_says, is_row, agrees}
use Rattle.ice_blif.specs.Covers.{level_of_word}
use Rattle.ice_blif.specs.Grammar.{was_named, with_named_port, port_says, ports_say, no_wiring, is_missing, after_actual, actual_signal, connect_at, connect_by, equals_at, connection_says, connections_say, cell_of, with_last, ram_of_word, gate_of_kind, gate_says, cover_signals, cover_of, names_say, row_line}
use Rattle.ice_blif.specs.Formals.{FormalsForm, formal_place, formal_ins, of_gate}
use Rattle.ice_blif.proofs.Kept.{bind_keeps, either, weaker}
use Rattle.ice_ram_words.specs.declared.kind.Edges.{Edges}
use Rattle.ice_ram_words.specs.Words.{edges_of}
use Rattle.ice_blif_laws.specs.NetlistText.{NetSoFar, Wiring, port_joins, actual_joins, connection_joins, connections_join, gate_joins, gate_directive, signal_joins, cover_joins, cover_row, row_joins_cover}

-- the words behind `.gate` or `.subckt` are no RAM's
abbrev pub OpensNone : List (List ℕ) → Type 0
OpensNone [] = Unit {0}
OpensNone (w ∷ ws) = edges_of w ≡ None

-- what the reader has read so far, in the words of the text
abbrev pub seen : NetReading → NetSoFar
seen r = (r.netlist, r.last)

-- a step and the reader's come to the same, where the reader takes it
abbrev pub Alike : Option NetSoFar → Result NetReading BlifFault → Type 0
Alike o m = IfOk m (λ (r : NetReading). o ≡ Some (seen r))

pub chosen_by : (b : Bool) (o p : Option NetSoFar) (m k : Result NetReading BlifFault) → (b ≡ true → Alike o m) → Alike p k → Alike (if b then o else p) (if b then m else k)
chosen_by true o p m k first second = first refl
chosen_by false o p m k first second = second

pub chosen : (b : Bool) (o p : Option NetSoFar) (m k : Result NetReading BlifFault) → Alike o m → Alike p k → Alike (if b then o else p) (if b then m else k)
chosen true o p m k first second = first
chosen false o p m k first second = second

-- ---- ports
pub ports_said : (line : ℕ) (way : Way) (n : NetlistData) (names : List (List ℕ)) → IfOk (ports_say line way n names) (λ (m : NetlistData). fold (port_joins way) n names ≡ m)
ports_said line way n [] = refl
ports_said line way n (name ∷ names) =
    bind_keeps (λ (m : NetlistData). port_joins way n name ≡ m) (λ (m : NetlistData). fold (port_joins way) n (name ∷ names) ≡ m) (port_says line way n name) (λ m. ports_say line way m names)
    (either (λ (m : NetlistData). port_joins way n name ≡ m) (was_named way (way_of n.ports (number_of_name n.names name))) (Err (PortTwice line)) (Ok (with_named_port n way name)) tt refl)
    (λ m same. weaker (λ (k : NetlistData). fold (port_joins way) m names ≡ k) (λ (k : NetlistData). fold (port_joins way) n (name ∷ names) ≡ k) (ports_say line way m names)
    (λ k later. ap (λ (x : NetlistData). fold (port_joins way) x names) same ∙ later) (ports_said line way m names))

-- ---- gates
abbrev pub Wired : Option Wiring → NetlistData × Connections → Type 0
Wired o c = o ≡ Some (c.0, c.1.signals)

pub equals_is : (word : List ℕ) → equals_at word ≡ position (λ b. b == 61) word
unfolding equals_at
equals_is word = refl

actual_said : (output : Bool) (actual : List ℕ) (n : NetlistData) (signals : List (Option SignalNo)) (place : ℕ)
    → ◌≡◌ {A = Wiring} (actual_joins output actual (n, signals) place) (after_actual n output actual, slice_set signals place (actual_signal n output actual))
actual_said output actual n signals place = by (is_missing output actual)
  where
    by : (b : Bool) → ◌≡◌ {A = Wiring} (if b then (n, slice_set signals place None) else (named n actual, slice_set signals place (Some (signal_of n actual)))) (if b then n else named n actual, slice_set signals place (if b then None else Some (signal_of n actual)))
    by true = refl
    by false = refl

-- an actual at the place of its formal, if there is one
abbrev placed : FormalsForm → List ℕ → NetlistData → Connections → ℕ → Option ℕ → Option Wiring
placed formals word n wiring at o = option_map (λ place. actual_joins (nat_le (formal_ins formals) place) (drop (at + 1) word) (n, wiring.signals) place) o

connection_said : (line : ℕ) (formals : FormalsForm) (n : NetlistData) (wiring : Connections) (word : List ℕ)
    → IfOk (connection_says line formals n wiring word) (Wired (connection_joins (formal_ins formals) (formal_place formals) word (n, wiring.signals)))
connection_said line formals n wiring word = by (equals_at word) (equals_is word)
  where
    at_place : (at : ℕ) (o : Option ℕ) → IfOk (connect_at line formals n wiring (drop (at + 1) word) o) (Wired (placed formals word n wiring at o))
    at_place at None = tt
    at_place at (Some place) = ap (λ (c : Wiring). Some c) (actual_said (nat_le (formal_ins formals) place) (drop (at + 1) word) n wiring.signals place)

    by : (o : Option ℕ) → o ≡ position (λ b. b == 61) word → IfOk (connect_by line formals n wiring word o) (Wired (connection_joins (formal_ins formals) (formal_place formals) word (n, wiring.signals)))
    by None e = tt
    by (Some at) e = subst (λ (o : Option ℕ). IfOk (connect_by line formals n wiring word (Some at)) (Wired (option_and_then (λ at. placed formals word n wiring at (formal_place formals (take at word))) o))) e (at_place at (formal_place formals (take at word)))

pub connections_said : (line : ℕ) (formals : FormalsForm) (n : NetlistData) (wiring : Connections) (ws : List (List ℕ))
    → IfOk (connections_say line formals n wiring ws) (Wired (connections_join (formal_ins formals) (formal_place formals) ws (n, wiring.signals)))
connections_said line formals n wiring [] = either (Wired (Some (n, wiring.signals))) wiring.twice (Err (PortTwice line)) (Ok (n, wiring)) tt refl
connections_said line formals n wiring (w ∷ ws) =
    let inputs : ℕ = formal_ins formals in
    bind_keeps (Wired (connection_joins inputs (formal_place formals) w (n, wiring.signals))) (Wired (connections_join inputs (formal_place formals) (w ∷ ws) (n, wiring.signals))) (connection_says line formals n wiring w) (λ c. connections_say line formals c.0 c.1 ws) (connection_said line formals n wiring w)
    (λ c one. weaker (Wired (connections_join inputs (formal_place formals) ws (c.0, c.1.signals))) (Wired (connections_join inputs (formal_place formals) (w ∷ ws) (n, wiring.signals))) (connections_say line formals c.0 c.1 ws)
    (λ k later. ap (option_and_then (connections_join inputs (formal_place formals) ws)) one ∙ later) (connections_said line formals c.0 c.1 ws))

-- what is no RAM and no gate is no cell
other_said : (line : ℕ) (r : NetReading) (ws : List (List ℕ)) (o : Option Edges) → o ≡ None → Alike None (ram_of_word line r ws o)
other_said line r ws None none = tt
other_said line r ws (Some edges) none = absurd (cc)

abbrev gate_joined : NetReading → List (List ℕ) → GateForm → Option Wiring
gate_joined r ws gate = connections_join (ins_count gate.kind) (gate_place gate) ws (r.netlist, no_wiring.signals)

pub gate_said : (line : ℕ) (r : NetReading) (ws : List (List ℕ)) → OpensNone ws → Alike (gate_directive line ws (seen r)) (gate_says line r ws)
gate_said line r [] none = tt
gate_said line r (w ∷ ws) none = by (gate_kind_of w)
  where
    by : (o : Option GateForm) → Alike (option_and_then (λ gate. option_map (gate_joins line gate r.last) (gate_joined r ws gate)) o) (gate_of_kind line r w ws o)
    by None = other_said line r ws (edges_of w) none
    by (Some gate) =
        bind_keeps (Wired (gate_joined r ws gate)) (λ (s : NetReading). option_map (gate_joins line gate r.last) (gate_joined r ws gate) ≡ Some (seen s)) (connections_say line (of_gate gate) r.netlist no_wiring ws) (λ c. Ok (with_last c.0 r.last (Gate (cell_of line gate c.1)) false)) (connections_said line (of_gate gate) r.netlist no_wiring ws)
        (λ c one. ap (option_map (gate_joins line gate r.last)) one)

-- ---- covers
signals_said : (line : ℕ) (n : NetlistData) (signals : List (Option SignalNo)) (ws : List (List ℕ)) → IfOk (cover_signals line n signals ws) (λ (c : Wiring). fold signal_joins (n, signals) ws ≡ c)
signals_said line n signals [] = refl
signals_said line n signals (w ∷ ws) =
    either (λ (c : Wiring). fold signal_joins (n, signals) (w ∷ ws) ≡ c) (nat_lt 4 (length signals)) (Err (TooWide line)) (cover_signals line (named n w) (signals ++ Some (signal_of n w) ∷ []) ws) tt
    (signals_said line (named n w) (signals ++ Some (signal_of n w) ∷ []) ws)

cover_said : (line : ℕ) (r : NetReading) (n : NetlistData) (signals : List (Option SignalNo)) → IfOk (cover_of line r n signals) (λ (s : NetReading). cover_joins line r.last (n, signals) ≡ seen s)
cover_said line r n [] = tt
cover_said line r n (s ∷ signals) = refl

pub names_said : (line : ℕ) (r : NetReading) (ws : List (List ℕ)) → Alike (Some (cover_joins line r.last (fold signal_joins (r.netlist, []) ws))) (names_say line r ws)
names_said line r ws =
    bind_keeps (λ (c : Wiring). fold signal_joins (r.netlist, []) ws ≡ c) (λ (s : NetReading). Some (cover_joins line r.last (fold signal_joins (r.netlist, []) ws)) ≡ Some (seen s)) (cover_signals line r.netlist [] ws) (λ c. cover_of line r c.0 c.1) (signals_said line r.netlist [] ws)
    (λ c one. weaker (λ (s : NetReading). cover_joins line r.last c ≡ seen s) (λ (s : NetReading). Some (cover_joins line r.last (fold signal_joins (r.netlist, []) ws)) ≡ Some (seen s)) (cover_of line r c.0 c.1)
    (λ s is. ap (λ (x : Wiring). Some (cover_joins line r.last x)) one ∙ ap (λ (x : NetSoFar). Some x) is) (cover_said line r c.0 c.1))

-- a row's digits and its level
level_said : (line : ℕ) (c : OpenCover) (row word : List ℕ) → IfOk (cover_row_of line c (Some (row, word))) (λ (k : OpenCover). option_map (with_cover_row c row) (level_of_word word) ≡ Some k)
level_said line c row word =
    either (λ (k : OpenCover). option_map (with_cover_row c row) (level_of_word word) ≡ Some k) (is_row (length c.ins) row) (row_of_level line c row (level_of_word word)) (Err (BadCover line)) (by (level_of_word word)) tt
  where
    by : (o : Option Bool) → IfOk (row_of_level line c row o) (λ (k : OpenCover). option_map (with_cover_row c row) o ≡ Some k)
    by None = tt
    by (Some level) = either (λ (k : OpenCover). Some (with_cover_row c row level) ≡ Some k) (agrees c.level level) (Ok (with_cover_row c row level)) (Err (BadCover line)) refl tt

cover_row_said : (line : ℕ) (c : OpenCover) (first : List ℕ) (others : List (List ℕ)) → IfOk (cover_row_says line c first others) (λ (k : OpenCover). cover_row c (first ∷ others) ≡ Some k)
cover_row_said line c first [] = by (length c.ins == 0)
  where
    by : (b : Bool) → IfOk (cover_row_of line c (if b then Some ([], first) else None)) (λ (k : OpenCover). cover_row c (first ∷ []) ≡ Some k)
    by true = level_said line c [] first
    by false = tt
cover_row_said line c first (level ∷ []) = by (length c.ins == 0)
  where
    by : (b : Bool) → IfOk (cover_row_of line c (if b then None else Some (first, level))) (λ (k : OpenCover). cover_row c (first ∷ level ∷ []) ≡ Some k)
    by true = tt
    by false = level_said line c first level
cover_row_said line c first (level ∷ word ∷ others) = by (length c.ins == 0)
  where
    by : (b : Bool) → IfOk (cover_row_of line c (if b then None else None)) (λ (k : OpenCover). cover_row c (first ∷ level ∷ word ∷ others) ≡ Some k)
    by true = tt
    by false = tt

pub row_said : (line : ℕ) (r : NetReading) (last : LastCell) (first : List ℕ) (others : List (List ℕ)) → Alike (row_joins_cover last (first ∷ others) r.netlist) (row_line line r last first others)
row_said line r Nothing first others = tt
row_said line r (Gate cell) first others = tt
row_said line r Memory first others = tt
row_said line r (Rows cover) first others =
    bind_keeps (λ (k : OpenCover). cover_row cover (first ∷ others) ≡ Some k) (λ (s : NetReading). row_joins_cover (Rows cover) (first ∷ others) r.netlist ≡ Some (seen s)) (cover_row_says line cover first others) (λ c. Ok (record { netlist = r.netlist; last = Rows c; rows = true }))
    (cover_row_said line cover first others) (λ c one. ap (option_map (λ (more : OpenCover). (r.netlist, Rows more))) one)
