-- What a line that makes no RAM leaves as it was: names get others behind them, and a RAM that was made last stays so until a cell is made.
use Rattle.std.proofs.Common.{◌≡◌, ℕ, ◌+◌, ◌==◌, Bool, true, false, ◌||◌, List, [], ◌∷◌, position, take, drop, fold, replicate, slice_set, nat_le, Option, Some, None, option_map, IfSome, if◌then◌else◌, codes, bytes_eq, refl, sym, subst}
use Rattle.std.specs.Option.{option_and_then}
use Rattle.ice_base.specs.Text.{begins_with}
use Rattle.ice_base.specs.Lists.{with_name}
use Rattle.ice_net.specs.declared.port.Way.{Way}
use Rattle.ice_net.specs.declared.port.Way.TheVariants.{Input, Output}
use Rattle.ice_net.specs.Kinds.{ins_count}
use Rattle.ice_net.specs.NetlistData.{NetlistData}
use Rattle.ice_blif.specs.Gates.{gate_kind_of, gate_place}
use Rattle.ice_blif.specs.Grammar.{is_missing}
use Rattle.ice_blif.specs.State.{LastCell, Nothing, Gate, Memory, Rows, named, signal_of}
use Rattle.ice_blif.proofs.OpenCells.{finished_names}
use Rattle.ice_ram_read.specs.RamData.{is_gate}
use Rattle.ice_ram_read.specs.RamTexts.{makes_cell}
use Rattle.ice_blif_laws.specs.NetlistText.{NetSoFar, Wiring, port_joins, actual_joins, connection_joins, connections_join, gate_joins, gate_directive, signal_joins, cover_joins, cover_row, row_joins_cover, param_joins, directive_joins, blif_line_joins}
use Rattle.ice_blif_write.proofs.NamesRead.{Grows, grows_same, grows_more, grows_name}

-- ---- values that there may be
pub some_then : {A B : Type 0} (P : B → Type 0) (Q : A → Type 0) (o : Option A) (f : A → Option B) → IfSome o Q → ((x : A) → Q x → IfSome (f x) P) → IfSome (option_and_then f o) P
some_then P Q None f q h = tt
some_then P Q (Some x) f q h = h x q

pub some_mapped : {A B : Type 0} (P : B → Type 0) (Q : A → Type 0) (o : Option A) (f : A → B) → IfSome o Q → ((x : A) → Q x → P (f x)) → IfSome (option_map f o) P
some_mapped P Q None f q h = tt
some_mapped P Q (Some x) f q h = h x q

pub some_any : {A : Type 0} (o : Option A) → IfSome o (λ x. Unit {0})
some_any None = tt
some_any (Some x) = tt

pub some_weaker : {A : Type 0} (P Q : A → Type 0) (o : Option A) → ((x : A) → P x → Q x) → IfSome o P → IfSome o Q
some_weaker P Q None h p = tt
some_weaker P Q (Some x) h p = h x p

-- what holds of a value that there is
pub held : {A : Type 0} (P : A → Type 0) (o : Option A) (x : A) → o ≡ Some x → IfSome o P → P x
held P o x is h = subst (λ n. IfSome n P) is h

-- ---- names
ports_grow : (way : Way) (n : NetlistData) (names : List (List ℕ)) → Grows n.names (fold (port_joins way) n names).names
ports_grow way n [] = grows_same n.names
ports_grow way n (name ∷ names) =
    grows_more n.names (with_name n.names name) (fold (port_joins way) (port_joins way n name) names).names (grows_name n.names name)
    (ports_grow way (port_joins way n name) names)

signals_grow : (c : Wiring) (names : List (List ℕ)) → Grows c.0.names (fold signal_joins c names).0.names
signals_grow c [] = grows_same c.0.names
signals_grow c (name ∷ names) =
    grows_more c.0.names (with_name c.0.names name) (fold signal_joins (signal_joins c name) names).0.names (grows_name c.0.names name)
    (signals_grow (signal_joins c name) names)

-- an actual at a port, by whether it makes no appearance
abbrev pub actual_by : List ℕ → Wiring → ℕ → Bool → Wiring
actual_by actual c place missing = if missing then (c.0, slice_set c.1 place None) else (named c.0 actual, slice_set c.1 place (Some (signal_of c.0 actual)))

actual_grows : (output : Bool) (actual : List ℕ) (c : Wiring) (place : ℕ) → Grows c.0.names (actual_joins output actual c place).0.names
actual_grows output actual c place = by (is_missing output actual)
  where
    by : (b : Bool) → Grows c.0.names (actual_by actual c place b).0.names
    by true = grows_same c.0.names
    by false = grows_name c.0.names actual

connection_grows : (first : List (List ℕ)) (inputs : ℕ) (place_of : List ℕ → Option ℕ) (word : List ℕ) (c : Wiring) → Grows first c.0.names
    → IfSome (connection_joins inputs place_of word c) (λ (d : Wiring). Grows first d.0.names)
connection_grows first inputs place_of word c grown =
    some_then (λ (d : Wiring). Grows first d.0.names) (λ (at : ℕ). Unit {0}) (position (λ b. b == 61) word)
    (λ at. option_map (λ place. actual_joins (nat_le inputs place) (drop (at + 1) word) c place) (place_of (take at word))) (some_any (position (λ b. b == 61) word))
    (λ at u. some_mapped (λ (d : Wiring). Grows first d.0.names) (λ (place : ℕ). Unit {0}) (place_of (take at word)) (λ place. actual_joins (nat_le inputs place) (drop (at + 1) word) c place)
    (some_any (place_of (take at word)))
    (λ place v. grows_more first c.0.names (actual_joins (nat_le inputs place) (drop (at + 1) word) c place).0.names grown (actual_grows (nat_le inputs place) (drop (at + 1) word) c place)))

pub connections_grow : (first : List (List ℕ)) (inputs : ℕ) (place_of : List ℕ → Option ℕ) (words : List (List ℕ)) (c : Wiring) → Grows first c.0.names
    → IfSome (connections_join inputs place_of words c) (λ (d : Wiring). Grows first d.0.names)
connections_grow first inputs place_of [] c grown = grown
connections_grow first inputs place_of (word ∷ words) c grown =
    some_then (λ (d : Wiring). Grows first d.0.names) (λ (d : Wiring). Grows first d.0.names) (connection_joins inputs place_of word c) (connections_join inputs place_of words)
    (connection_grows first inputs place_of word c grown) (λ d one. connections_grow first inputs place_of words d one)

-- ---- lines
-- a RAM was made last
abbrev pub is_memory : LastCell → Bool
is_memory Memory = true
is_memory last = false

-- what is said behind a line, which may make a cell, when a netlist and its last cell were said before it
pub record Moves (makes : Bool) (n : NetlistData) (last : LastCell) (s : NetSoFar) : Type 0 where
  pub grown : Grows n.names s.0.names
  pub memory : is_memory s.1 ≡ (if makes then false else is_memory last)

gate_moves : (line : ℕ) (words : List (List ℕ)) (r : NetSoFar) → IfSome (gate_directive line words r) (Moves true r.0 r.1)
gate_moves line [] r = tt
gate_moves line (kind ∷ connections) r =
    some_then (Moves true r.0 r.1) (λ gate. Unit {0}) (gate_kind_of kind)
    (λ gate. option_map (gate_joins line gate r.1) (connections_join (ins_count gate.kind) (gate_place gate) connections (r.0, replicate 76 None))) (some_any (gate_kind_of kind))
    (λ gate u. some_mapped (Moves true r.0 r.1) (λ (d : Wiring). Grows r.0.names d.0.names) (connections_join (ins_count gate.kind) (gate_place gate) connections (r.0, replicate 76 None)) (gate_joins line gate r.1)
    (connections_grow r.0.names (ins_count gate.kind) (gate_place gate) connections (r.0, replicate 76 None) (grows_same r.0.names))
    (λ c grown. record { grown = subst (Grows r.0.names) (sym (finished_names c.0 r.1)) grown; memory = refl }))

cover_moves : (line : ℕ) (r : NetSoFar) (words : List (List ℕ)) → Moves true r.0 r.1 (cover_joins line r.1 (fold signal_joins (r.0, []) words))
cover_moves line r words = record {
  grown = subst (Grows r.0.names) (sym (finished_names (fold signal_joins (r.0, []) words).0 r.1)) (signals_grow (r.0, []) words);
  memory = refl;
}

param_memory : (last : LastCell) (words : List (List ℕ)) → is_memory (param_joins last words) ≡ is_memory last
param_memory Nothing words = refl
param_memory Memory words = refl
param_memory (Rows cover) words = refl
param_memory (Gate cell) [] = refl
param_memory (Gate cell) (name ∷ []) = refl
param_memory (Gate cell) (name ∷ value ∷ []) = refl
param_memory (Gate cell) (name ∷ value ∷ word ∷ words) = refl

row_moves : (makes : Bool) (last : LastCell) (row : List (List ℕ)) (n : NetlistData) → IfSome (row_joins_cover last row n) (Moves makes n last)
row_moves makes Nothing row n = tt
row_moves makes (Gate cell) row n = tt
row_moves makes Memory row n = tt
row_moves makes (Rows cover) row n =
    some_mapped (Moves makes n (Rows cover)) (λ more. Unit {0}) (cover_row cover row) (λ more. (n, Rows more)) (some_any (cover_row cover row))
    (λ more u. record { grown = grows_same n.names; memory = neither makes })
  where
    neither : (b : Bool) → false ≡ (if b then false else false)
    neither true = refl
    neither false = refl

directive_moves : (line : ℕ) (first : List ℕ) (others : List (List ℕ)) (r : NetSoFar) → IfSome (directive_joins line first others r) (Moves (makes_cell first) r.0 r.1)
directive_moves line first others r =
    by (is_gate first) (bytes_eq first (codes ".names")) (bytes_eq first (codes ".param")) (bytes_eq first (codes ".attr") || bytes_eq first (codes ".cname")) (bytes_eq first (codes ".inputs")) (bytes_eq first (codes ".outputs"))
  where
    by : (gate cover param note inputs outputs : Bool)
        → IfSome (if gate then gate_directive line others r
        else (if cover then Some (cover_joins line r.1 (fold signal_joins (r.0, []) others))
        else (if param then Some (r.0, param_joins r.1 others)
        else (if note then Some r
        else (if inputs then Some (fold (port_joins Input) r.0 others, r.1)
        else (if outputs then Some (fold (port_joins Output) r.0 others, r.1)
        else None)))))) (Moves (gate || cover) r.0 r.1)
    by true cover param note inputs outputs = gate_moves line others r
    by false true param note inputs outputs = cover_moves line r others
    by false false true note inputs outputs = record { grown = grows_same r.0.names; memory = param_memory r.1 others }
    by false false false true inputs outputs = record { grown = grows_same r.0.names; memory = refl }
    by false false false false true outputs = record { grown = ports_grow Input r.0 others; memory = refl }
    by false false false false false true = record { grown = ports_grow Output r.0 others; memory = refl }
    by false false false false false false = tt

pub line_moves : (line : ℕ) (first : List ℕ) (others : List (List ℕ)) (r : NetSoFar) → IfSome (blif_line_joins line first others r) (Moves (makes_cell first) r.0 r.1)
line_moves line first others r = by (begins_with 46 first)
  where
    by : (b : Bool) → IfSome (if b then directive_joins line first others r else row_joins_cover r.1 (first ∷ others) r.0) (Moves (makes_cell first) r.0 r.1)
    by true = directive_moves line first others r
    by false = row_moves (makes_cell first) r.1 (first ∷ others) r.0
