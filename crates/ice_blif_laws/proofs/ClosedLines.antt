-- What the reader takes of a line, and of the RAM that it makes or is said of, is what the line says.
use Rattle.std.proofs.Common.{◌≡◌, ◌∙◌, ℕ, Bool, true, false, ◌||◌, List, [], ◌∷◌, ◌++◌, replicate, Option, Some, None, option_map, is_some, Result, Ok, IfOk, if◌then◌else◌, codes, bytes_eq, refl, ap, sym, subst, true≢false}
use Rattle.ice_base.specs.Text.{begins_with}
use Rattle.ice_base.specs.declared.number.SignalNo.{SignalNo}
use Rattle.ice_base.proofs.Keys.{bytes_same}
use Rattle.ice_net.specs.NetlistData.{NetlistData}
use Rattle.ice_blif.specs.declared.fault.BlifFault.{BlifFault}
use Rattle.ice_blif.specs.Cells.{◌>>=◌}
use Rattle.ice_blif.specs.Formals.{of_ram}
use Rattle.ice_blif.specs.Gates.{gate_kind_of}
use Rattle.ice_blif.specs.Grammar.{no_wiring, connections_say, with_last, ram_says, ram_of_word, gate_of_kind, gate_says, row_or_fault, directive_says, within_limits, line_says}
use Rattle.ice_blif.specs.JoinedLines.{FilledLine}
use Rattle.ice_blif.specs.Reading.{NetReading, Connections}
use Rattle.ice_blif.specs.State.{LastCell, Nothing, Gate, Memory, Rows, finished}
use Rattle.ice_blif.proofs.Kept.{bind_keeps, weaker}
use Rattle.ice_blif.proofs.OpenCells.{finished_names}
use Rattle.ice_ram_words.specs.declared.kind.Edges.{Edges}
use Rattle.ice_ram_words.specs.Words.{edges_of, place}
use Rattle.ice_ram_read.specs.RamData.{RamData, is_gate, new_ram, param_said}
use Rattle.ice_ram_read.specs.RamTexts.{opened, opened_by, makes_cell, listed, before_line, after_line}
use Rattle.ice_blif_laws.specs.NetlistText.{Wiring, connections_join, blif_line_joins}
use Rattle.ice_blif_laws.specs.ClosedText.{ram_edges, ram_joins, ram_param, closed_joins, closed_line_joins}
use Rattle.ice_blif_write.proofs.NamesRead.{Grows, grows_same}
use Rattle.ice_blif_laws.proofs.TextLines.{within_keeps, line_said}
use Rattle.ice_blif_laws.proofs.TextMoves.{held, connections_grow, is_memory, Moves, line_moves}
use Rattle.ice_blif_laws.proofs.TextRams.{AllFoundBy, signals_later}
use Rattle.ice_blif_laws.proofs.TextSteps.{OpensNone, seen, Wired, connections_said}

abbrev pub filled_line : ℕ → List ℕ → List (List ℕ) → FilledLine
filled_line line first others = record { number = line; first = first; others = others }

-- What a line makes of a netlist, and of the RAMs before it, where a netlist has all names: of these one may be open.
pub record LineSaid (l : FilledLine) (r s : NetReading) : Type 0 where
  pub grown : Grows r.netlist.names s.netlist.names
  pub said : (m : NetlistData) (before : Option RamData) (earlier : List RamData) → Grows s.netlist.names m.names → is_memory r.last ≡ is_some before
      → closed_line_joins l.number l.first l.others (seen r, listed before ++ earlier) ≡ Some (seen s, listed (after_line m before l) ++ (before_line before l.first ++ earlier))
  pub memory : (m : NetlistData) (before : Option RamData) → Grows s.netlist.names m.names → is_memory r.last ≡ is_some before → is_memory s.last ≡ is_some (after_line m before l)

taken : {A : Type 0} (b : Bool) (x y : A) → b ≡ true → (if b then x else y) ≡ x
taken true x y e = refl
taken false x y e = absurd (true≢false (sym e))

-- ---- words
begins_with_dot : (first : List ℕ) → is_gate first ≡ true → begins_with 46 first ≡ true
begins_with_dot first = by (bytes_eq first (codes ".gate")) (bytes_eq first (codes ".subckt")) refl refl
  where
    by : (gate subckt : Bool) → bytes_eq first (codes ".gate") ≡ gate → bytes_eq first (codes ".subckt") ≡ subckt → (gate || subckt) ≡ true → begins_with 46 first ≡ true
    by true subckt e f is = ap (begins_with 46) (bytes_same first (codes ".gate") e)
    by false true e f is = ap (begins_with 46) (bytes_same first (codes ".subckt") f)
    by false false e f is = absurd (true≢false (sym is))

-- a line that makes a cell is no parameter
no_param : (first : List ℕ) → makes_cell first ≡ true → bytes_eq first (codes ".param") ≡ false
no_param first = by (bytes_eq first (codes ".gate")) (bytes_eq first (codes ".subckt")) (bytes_eq first (codes ".names")) refl refl refl
  where
    by : (gate subckt cover : Bool) → bytes_eq first (codes ".gate") ≡ gate → bytes_eq first (codes ".subckt") ≡ subckt → bytes_eq first (codes ".names") ≡ cover → ((gate || subckt) || cover) ≡ true
        → bytes_eq first (codes ".param") ≡ false
    by true subckt cover e f g is = ap (λ (w : List ℕ). bytes_eq w (codes ".param")) (bytes_same first (codes ".gate") e)
    by false true cover e f g is = ap (λ (w : List ℕ). bytes_eq w (codes ".param")) (bytes_same first (codes ".subckt") f)
    by false false true e f g is = ap (λ (w : List ℕ). bytes_eq w (codes ".param")) (bytes_same first (codes ".names") g)
    by false false false e f g is = absurd (true≢false (sym is))

-- the kinds of RAMs are no cells'
no_cell : (word : List ℕ) (edges : Edges) → edges_of word ≡ Some edges → gate_kind_of word ≡ None
no_cell word edges =
    by (bytes_eq word (codes "SB_RAM40_4K")) (bytes_eq word (codes "SB_RAM40_4KNR")) (bytes_eq word (codes "SB_RAM40_4KNW")) (bytes_eq word (codes "SB_RAM40_4KNRNW")) refl refl refl refl
  where
    by : (plain read write both : Bool) → bytes_eq word (codes "SB_RAM40_4K") ≡ plain → bytes_eq word (codes "SB_RAM40_4KNR") ≡ read → bytes_eq word (codes "SB_RAM40_4KNW") ≡ write → bytes_eq word (codes "SB_RAM40_4KNRNW") ≡ both
        → (if plain then Some (record { read_falls = false; write_falls = false })
        else (if read then Some (record { read_falls = true; write_falls = false })
        else (if write then Some (record { read_falls = false; write_falls = true })
        else (if both then Some (record { read_falls = true; write_falls = true })
        else None)))) ≡ Some edges → gate_kind_of word ≡ None
    by true read write both e f g h is = ap gate_kind_of (bytes_same word (codes "SB_RAM40_4K") e)
    by false true write both e f g h is = ap gate_kind_of (bytes_same word (codes "SB_RAM40_4KNR") f)
    by false false true both e f g h is = ap gate_kind_of (bytes_same word (codes "SB_RAM40_4KNW") g)
    by false false false true e f g h is = ap gate_kind_of (bytes_same word (codes "SB_RAM40_4KNRNW") h)
    by false false false false e f g h is = absurd (cc)

-- ---- a line that makes no RAM
none_opens : (first : List ℕ) (others : List (List ℕ)) → ram_edges first others ≡ None → is_gate first ≡ true → OpensNone others
none_opens first [] none gate = tt
none_opens first (w ∷ ws) none gate = sym (taken (is_gate first) (edges_of w) None gate) ∙ none

none_opened : (m : NetlistData) (line : ℕ) (others : List (List ℕ)) → OpensNone others → opened m line others ≡ None
none_opened m line [] none = refl
none_opened m line (w ∷ ws) none = ap (opened_by m line ws) none

-- a parameter is that of the open RAM
param_same : (last : LastCell) (words : List (List ℕ)) (before : Option RamData) (earlier : List RamData) → is_memory last ≡ is_some before
    → ram_param last words (listed before ++ earlier) ≡ listed (option_map (λ (ram : RamData). param_said ram words) before) ++ earlier
param_same Memory words (Some ram) earlier is_open = refl
param_same Memory words None earlier is_open = absurd (true≢false is_open)
param_same Nothing words None earlier is_open = refl
param_same Nothing words (Some ram) earlier is_open = absurd (true≢false (sym is_open))
param_same (Gate cell) words None earlier is_open = refl
param_same (Gate cell) words (Some ram) earlier is_open = absurd (true≢false (sym is_open))
param_same (Rows cover) words None earlier is_open = refl
param_same (Rows cover) words (Some ram) earlier is_open = absurd (true≢false (sym is_open))

some_mapped_alike : {A B : Type 0} (f : A → B) (o : Option A) → is_some o ≡ is_some (option_map f o)
some_mapped_alike f None = refl
some_mapped_alike f (Some x) = refl

module _ (m : NetlistData) (line : ℕ) (first : List ℕ) (others : List (List ℕ)) (last : LastCell) (before : Option RamData) where
  abbrev after_by : Bool → Bool → Bool → Option RamData
  after_by gate cover param = if gate then opened m line others else (if cover then None else (if param then option_map (λ (ram : RamData). param_said ram others) before else before))

  rams_by : (earlier : List RamData) (gate cover param : Bool) → ((gate || cover) ≡ true → param ≡ false) → (gate ≡ true → opened m line others ≡ None) → is_memory last ≡ is_some before
      → (if param then ram_param last others (listed before ++ earlier) else listed before ++ earlier) ≡ listed (after_by gate cover param) ++ ((if gate || cover then listed before else []) ++ earlier)
  rams_by earlier true cover true apart none is_open = absurd (true≢false (apart refl))
  rams_by earlier true cover false apart none is_open = ap (λ (o : Option RamData). listed o ++ (listed before ++ earlier)) (sym (none refl))
  rams_by earlier false true true apart none is_open = absurd (true≢false (apart refl))
  rams_by earlier false true false apart none is_open = refl
  rams_by earlier false false true apart none is_open = param_same last others before earlier is_open
  rams_by earlier false false false apart none is_open = refl

  open_by : (gate cover param : Bool) → (gate ≡ true → opened m line others ≡ None) → is_memory last ≡ is_some before → (if gate || cover then false else is_memory last) ≡ is_some (after_by gate cover param)
  open_by true cover param none is_open = ap is_some (sym (none refl))
  open_by false true param none is_open = refl
  open_by false false true none is_open = is_open ∙ some_mapped_alike (λ (ram : RamData). param_said ram others) before
  open_by false false false none is_open = is_open

plain_said : (line : ℕ) (first : List ℕ) (others : List (List ℕ)) (r : NetReading) → ram_edges first others ≡ None → IfOk (line_says within_limits (filled_line line first others) r) (LineSaid (filled_line line first others) r)
plain_said line first others r none =
    weaker (λ (s : NetReading). blif_line_joins line first others (seen r) ≡ Some (seen s)) (LineSaid (filled_line line first others) r) (line_says within_limits (filled_line line first others) r) said
    (line_said (filled_line line first others) r (none_opens first others none))
  where
    opens : (m : NetlistData) → is_gate first ≡ true → opened m line others ≡ None
    opens m gate = none_opened m line others (none_opens first others none gate)

    said : (s : NetReading) → blif_line_joins line first others (seen r) ≡ Some (seen s) → LineSaid (filled_line line first others) r s
    said s is =
        let moves : Moves (makes_cell first) r.netlist r.last (seen s) = held (Moves (makes_cell first) r.netlist r.last) (blif_line_joins line first others (seen r)) (seen s) is (line_moves line first others (seen r)) in
        record {
          grown = moves.grown;
          said = λ m before earlier grown is_open.
              ap (λ (o : Option Edges). closed_joins o line first others (seen r, listed before ++ earlier)) none
              ∙ ap (option_map (λ n. (n, if bytes_eq first (codes ".param") then ram_param r.last others (listed before ++ earlier) else listed before ++ earlier))) is
              ∙ ap (λ (rams : List RamData). Some (seen s, rams)) (rams_by m line first others r.last before earlier (is_gate first) (bytes_eq first (codes ".names")) (bytes_eq first (codes ".param")) (no_param first) (opens m) is_open);
          memory = λ m before grown is_open. moves.memory ∙ open_by m line first others r.last before (is_gate first) (bytes_eq first (codes ".names")) (bytes_eq first (codes ".param")) (opens m) is_open;
        }

-- ---- a line that makes a RAM
edges_parts : (b : Bool) (o : Option Edges) (edges : Edges) → (if b then o else None) ≡ Some edges → (b ≡ true) × (o ≡ Some edges)
edges_parts true o edges e = (refl, e)
edges_parts false o edges e = absurd (cc)

module _ (line : ℕ) (first word : List ℕ) (words : List (List ℕ)) (r : NetReading) (edges : Edges) (gate : is_gate first ≡ true) (kind : edges_of word ≡ Some edges) where
  abbrev begun : Wiring
  begun = (r.netlist, replicate 76 None)

  abbrev joined : Option Wiring
  joined = connections_join 60 (place edges) words begun

  line_makes : (if begins_with 46 first then directive_says line r first (word ∷ words) else row_or_fault line r first (word ∷ words)) ≡ ram_says line r words edges
  line_makes =
      let directive : directive_says line r first (word ∷ words) ≡ gate_says line r (word ∷ words) = taken (is_gate first) (gate_says line r (word ∷ words)) _ gate in
      taken (begins_with 46 first) (directive_says line r first (word ∷ words)) (row_or_fault line r first (word ∷ words)) (begins_with_dot first gate) ∙ directive
      ∙ ap (gate_of_kind line r word words) (no_cell word edges kind) ∙ ap (ram_of_word line r words) kind

  edges_known : ram_edges first (word ∷ words) ≡ Some edges
  edges_known = taken (is_gate first) (edges_of word) None gate ∙ kind

  opened_is : (m : NetlistData) (before : Option RamData) (signals : List (Option SignalNo)) → opened_by m line words (Some edges) ≡ Some (new_ram line edges signals)
      → after_line m before (filled_line line first (word ∷ words)) ≡ Some (new_ram line edges signals)
  opened_is m before signals is =
      let opens : after_line m before (filled_line line first (word ∷ words)) ≡ opened m line (word ∷ words) = taken (is_gate first) (opened m line (word ∷ words)) _ gate in
      opens ∙ ap (opened_by m line words) kind ∙ is

  before_is : (before : Option RamData) → before_line before first ≡ listed before
  before_is before = taken (makes_cell first) (listed before) [] (ap (λ b. b || bytes_eq first (codes ".names")) gate)

  ram_said : (c : NetlistData × Connections) → Wired joined c → LineSaid (filled_line line first (word ∷ words)) r (with_last c.0 r.last Memory false)
  ram_said c is =
      let grown : Grows r.netlist.names c.0.names = held (λ (k : Wiring). Grows r.netlist.names k.0.names) joined (c.0, c.1.signals) is (connections_grow r.netlist.names 60 (place edges) words begun (grows_same r.netlist.names)) in
      let later : AllFoundBy edges words begun (c.0, c.1.signals) = held (AllFoundBy edges words begun) joined (c.0, c.1.signals) is (signals_later edges words begun) in
      record {
        grown = subst (Grows r.netlist.names) (sym (finished_names c.0 r.last)) grown;
        said = λ m before earlier more is_open.
            ap (λ (o : Option Edges). closed_joins o line first (word ∷ words) (seen r, listed before ++ earlier)) edges_known
            ∙ ap (option_map (ram_joins line edges (seen r, listed before ++ earlier))) is
            ∙ ap (λ (rams : List RamData). Some ((finished c.0 r.last, Memory), new_ram line edges c.1.signals ∷ (rams ++ earlier))) (sym (before_is before))
            ∙ ap (λ (o : Option RamData). Some ((finished c.0 r.last, Memory), listed o ++ (before_line before first ++ earlier))) (sym (opens m before later more));
        memory = λ m before more is_open. ap is_some (sym (opens m before later more));
      }
    where
      opens : (m : NetlistData) (before : Option RamData) → AllFoundBy edges words begun (c.0, c.1.signals) → Grows (finished c.0 r.last).names m.names
          → after_line m before (filled_line line first (word ∷ words)) ≡ Some (new_ram line edges c.1.signals)
      opens m before later more =
          opened_is m before c.1.signals (ap (λ signals. Some (new_ram line edges signals)) (later m (subst (λ names. Grows names m.names) (finished_names c.0 r.last) more)))

  makes_said : IfOk (line_says within_limits (filled_line line first (word ∷ words)) r) (LineSaid (filled_line line first (word ∷ words)) r)
  makes_said =
      subst (λ (told : Result NetReading BlifFault). IfOk (told >>= within_limits line) (LineSaid (filled_line line first (word ∷ words)) r)) (sym line_makes)
      (bind_keeps (LineSaid (filled_line line first (word ∷ words)) r) (LineSaid (filled_line line first (word ∷ words)) r) (ram_says line r words edges) (within_limits line)
      (bind_keeps (Wired joined) (LineSaid (filled_line line first (word ∷ words)) r) (connections_say line (of_ram edges) r.netlist no_wiring words) (λ c. Ok (with_last c.0 r.last Memory false))
      (connections_said line (of_ram edges) r.netlist no_wiring words) ram_said)
      (λ s said. within_keeps (LineSaid (filled_line line first (word ∷ words)) r) line s said))

-- ---- any line
pub closed_line_said : (line : ℕ) (first : List ℕ) (others : List (List ℕ)) (r : NetReading) → IfOk (line_says within_limits (filled_line line first others) r) (LineSaid (filled_line line first others) r)
closed_line_said line first others r = by (ram_edges first others) refl
  where
    of_words : (ws : List (List ℕ)) (edges : Edges) → ram_edges first ws ≡ Some edges → IfOk (line_says within_limits (filled_line line first ws) r) (LineSaid (filled_line line first ws) r)
    of_words [] edges e = absurd (cc)
    of_words (word ∷ words) edges e = let parts = edges_parts (is_gate first) (edges_of word) edges e in makes_said line first word words r edges parts.0 parts.1

    by : (o : Option Edges) → ram_edges first others ≡ o → IfOk (line_says within_limits (filled_line line first others) r) (LineSaid (filled_line line first others) r)
    by None e = plain_said line first others r e
    by (Some edges) e = of_words others edges e
