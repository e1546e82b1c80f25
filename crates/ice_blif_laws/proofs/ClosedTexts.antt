-- What the reader takes of a netlist text is what the text says, line by line: its netlist, and the RAMs that close it.
use Rattle.std.proofs.Common.{◌≡◌, ◌∙◌, ℕ, Bool, true, false, List, [], ◌∷◌, ◌++◌, append-nil, append_assoc, length, fold, nat_lt, reverse, Option, Some, None, option_map, is_some, Result, Ok, Err, IfOk, if◌then◌else◌, codes, bytes_eq, refl, ap, sym, subst}
use Rattle.std.specs.Option.{option_and_then}
use Rattle.std.proofs.lemmas.List.{reverse-append}
use Rattle.ice_base.specs.Text.{lines, numbered, words}
use Rattle.ice_base.proofs.Keys.{bytes_same}
use Rattle.ice_net.specs.declared.cell.Cell.{Cell}
use Rattle.ice_net.specs.NetlistData.{NetlistData, empty_netlist}
use Rattle.ice_blif.specs.declared.fault.BlifFault.{BlifFault}
use Rattle.ice_blif.specs.declared.fault.BlifFault.TheVariants.{NoModel, TooMany}
use Rattle.ice_blif.specs.Cells.{◌>>=◌}
use Rattle.ice_blif.specs.Continued.{continued}
use Rattle.ice_blif.specs.FewSignals.{few_signals, apart_says, taken_apart_says}
use Rattle.ice_blif.specs.Grammar.{within_limits, line_says, after_end, ended, model_says, empty_reader, lines_say, netlist_of}
use Rattle.ice_blif.specs.JoinedLines.{joined, filled, last_number, goes_on_by, plain_by, with_next, later_joined}
use Rattle.ice_blif.specs.Reading.{NetReading}
use Rattle.ice_blif.specs.Registers.{with_apart, all_apart, without_cells, taken_apart}
use Rattle.ice_blif.specs.State.{Nothing, finished}
use Rattle.ice_blif.proofs.Kept.{bind_keeps, bound, either, any_ok, weaker}
use Rattle.ice_blif.proofs.OpenCells.{finished_names}
use Rattle.ice_ram_read.specs.RamData.{RamData}
use Rattle.ice_ram_read.specs.RamTexts.{listed, before_line, after_line, makes_cell, rams_said, rams_of}
use Rattle.ice_ram_read.specs.ClosedNetlists.{ClosedNetlistData, with_ram, cut_says, closed_by, closed_with}
use Rattle.ice_blif_laws.specs.NetlistText.{join, joined_lines, model_lines, blif_lines_join}
use Rattle.ice_blif_laws.specs.ClosedText.{ClosedSoFar, closed_line_joins, with_rams, closed_whole, closed_in}
use Rattle.ice_blif_laws.specs.NetlistTextLaw.{TextsSayClosedNetlists}
use Rattle.ice_blif_laws.proofs.ClosedLines.{filled_line, LineSaid, closed_line_said}
use Rattle.ice_blif_laws.proofs.GrownNames.{apart_grows}
use Rattle.ice_blif_write.proofs.NamesRead.{Grows, grows_same, grows_more}
use Rattle.ice_blif_laws.proofs.TextMoves.{is_memory}
use Rattle.ice_blif_laws.proofs.TextSteps.{seen}

-- ---- lines
-- the netlist without its RAMs behind `.end`, before pads are taken apart, and these in order
abbrev ended_whole : ClosedSoFar → NetlistData × List RamData
ended_whole r = (finished r.0.0 r.0.1, reverse r.1)

-- what lines say of a netlist and of RAMs before them, where a netlist has all names
record ModelSaid (js : List (ℕ × List (List ℕ))) (r : NetReading) (raw : NetlistData) : Type 0 where
  grown : Grows r.netlist.names raw.names
  said : (m : NetlistData) (before : Option RamData) (earlier : List RamData) → Grows raw.names m.names → is_memory r.last ≡ is_some before
      → option_map ended_whole (model_lines closed_line_joins js (seen r, listed before ++ earlier)) ≡ Some (raw, reverse earlier ++ rams_said m before (filled js))

reverse_listed : (o : Option RamData) → reverse (listed o) ≡ listed o
reverse_listed None = refl
reverse_listed (Some ram) = refl

reverse_before : (o : Option RamData) (earlier : List RamData) → reverse (listed o ++ earlier) ≡ reverse earlier ++ listed o
reverse_before o earlier = reverse-append (listed o) earlier ∙ ap (λ (rams : List RamData). reverse earlier ++ rams) (reverse_listed o)

before_reversed : (makes : Bool) (o : Option RamData) (earlier later : List RamData)
    → reverse ((if makes then listed o else []) ++ earlier) ++ later ≡ reverse earlier ++ ((if makes then listed o else []) ++ later)
before_reversed true o earlier later = ap (λ (rams : List RamData). rams ++ later) (reverse_before o earlier) ∙ append_assoc (reverse earlier) (listed o) later
before_reversed false o earlier later = refl

-- the same of a line and of those behind it, by whether it is `.end`
abbrev SaidBy : ℕ → List ℕ → List (List ℕ) → List (ℕ × List (List ℕ)) → NetReading → Bool → NetlistData → Type 0
SaidBy line first others js r b raw = (m : NetlistData) (before : Option RamData) (earlier : List RamData) → Grows raw.names m.names → is_memory r.last ≡ is_some before
    → option_map ended_whole (if b then Some (seen r, listed before ++ earlier) else option_and_then (model_lines closed_line_joins js) (closed_line_joins line first others (seen r, listed before ++ earlier)))
    ≡ Some (raw, reverse earlier ++ (if b then listed before else before_line before first ++ rams_said m (after_line m before (filled_line line first others)) (filled js)))

model_said : (last : ℕ) (js : List (ℕ × List (List ℕ))) (r : NetReading) → IfOk (model_says within_limits last r (filled js)) (ModelSaid js r)
model_said last [] r = tt
model_said last ((line, []) ∷ js) r =
    weaker (ModelSaid js r) (ModelSaid ((line, []) ∷ js) r) (model_says within_limits last r (filled js)) (λ raw is. record { grown = is.grown; said = is.said }) (model_said last js r)
model_said last ((line, first ∷ others) ∷ js) r = by (bytes_eq first (codes ".end")) refl (λ s. model_said last js s)
  where
    at_end : (b : Bool) → b ≡ true → SaidBy line first others js r b (finished r.netlist r.last)
    at_end true e m before earlier grown is_open = ap (λ (rams : List RamData). Some (finished r.netlist r.last, rams)) (reverse_before before earlier)
    at_end false e m before earlier grown is_open = absurd (cc)

    going_on : (b : Bool) → b ≡ false → (s : NetReading) (raw : NetlistData) → LineSaid (filled_line line first others) r s → ModelSaid js s raw → SaidBy line first others js r b raw
    going_on true e s raw one rest m before earlier grown is_open = absurd (cc)
    going_on false e s raw one rest m before earlier grown is_open =
        let more : Grows s.netlist.names m.names = grows_more s.netlist.names raw.names m.names rest.grown grown in
        ap (λ (o : Option ClosedSoFar). option_map ended_whole (option_and_then (model_lines closed_line_joins js) o)) (one.said m before earlier more is_open)
        ∙ rest.said m (after_line m before (filled_line line first others)) (before_line before first ++ earlier) grown (one.memory m before more is_open)
        ∙ ap (λ (rams : List RamData). Some (raw, rams)) (before_reversed (makes_cell first) before earlier (rams_said m (after_line m before (filled_line line first others)) (filled js)))

    by : (b : Bool) → bytes_eq first (codes ".end") ≡ b → ((s : NetReading) → IfOk (model_says within_limits last s (filled js)) (ModelSaid js s))
        → IfOk (if b then ended r (filled js) else line_says within_limits (filled_line line first others) r >>= (λ s. model_says within_limits last s (filled js))) (ModelSaid ((line, first ∷ others) ∷ js) r)
    by true e rest =
        bind_keeps (λ (u : Unit {0}). Unit {0}) (ModelSaid ((line, first ∷ others) ∷ js) r) (after_end (filled js)) (λ u. Ok (finished r.netlist r.last)) (any_ok (after_end (filled js)))
        (λ u kept. record { grown = subst (Grows r.netlist.names) (sym (finished_names r.netlist r.last)) (grows_same r.netlist.names); said = at_end (bytes_eq first (codes ".end")) e })
    by false e rest =
        bind_keeps (LineSaid (filled_line line first others) r) (ModelSaid ((line, first ∷ others) ∷ js) r) (line_says within_limits (filled_line line first others) r) (λ s. model_says within_limits last s (filled js)) (closed_line_said line first others r)
        (λ s one. weaker (ModelSaid js s) (ModelSaid ((line, first ∷ others) ∷ js) r) (model_says within_limits last s (filled js))
        (λ raw is. record { grown = grows_more r.netlist.names s.netlist.names raw.names one.grown is.grown; said = going_on (bytes_eq first (codes ".end")) e s raw one is }) (rest s))

-- what a text's lines say, where a netlist has all names
abbrev LinesSaid : List (ℕ × List (List ℕ)) → NetlistData → Type 0
LinesSaid js raw = (m : NetlistData) → Grows raw.names m.names
    → option_map ended_whole (blif_lines_join closed_line_joins ((empty_netlist, Nothing), []) js) ≡ Some (raw, rams_said m None (filled js))

-- the same, by whether the first line is `.model`
abbrev FirstSaid : ℕ → List ℕ → List (List ℕ) → List (ℕ × List (List ℕ)) → Bool → NetlistData → Type 0
FirstSaid line first others js b raw = (m : NetlistData) → Grows raw.names m.names
    → option_map ended_whole (if b then model_lines closed_line_joins js ((empty_netlist, Nothing), []) else None) ≡ Some (raw, rams_said m None (filled_line line first others ∷ filled js))

lines_said : (last : ℕ) (js : List (ℕ × List (List ℕ))) → IfOk (lines_say within_limits last (filled js)) (LinesSaid js)
lines_said last [] = tt
lines_said last ((line, []) ∷ js) = lines_said last js
lines_said last ((line, first ∷ others) ∷ js) = by (bytes_eq first (codes ".model")) refl
  where
    model_first : (m : NetlistData) → bytes_eq first (codes ".model") ≡ true → rams_said m None (filled_line line first others ∷ filled js) ≡ rams_said m None (filled js)
    model_first m e = ap (λ (w : List ℕ). rams_said m None (filled_line line w others ∷ filled js)) (bytes_same first (codes ".model") e)

    by : (b : Bool) → bytes_eq first (codes ".model") ≡ b → IfOk (if b then model_says within_limits last empty_reader (filled js) else Err (NoModel line)) (FirstSaid line first others js b)
    by true e =
        weaker (ModelSaid js empty_reader) (FirstSaid line first others js true) (model_says within_limits last empty_reader (filled js))
        (λ raw is m grown. is.said m None [] grown refl ∙ ap (λ (rams : List RamData). Some (raw, rams)) (sym (model_first m e))) (model_said last js empty_reader)
    by false e = tt

joined_same : (ls : List (ℕ × List ℕ)) → joined_lines ls ≡ joined ls
joined_same [] = refl
joined_same (l ∷ ls) = ap (join l.0 l.1 (continued l.1)) (joined_same ls) ∙ by (continued l.1) (joined ls)
  where
    by : (o : Option (List ℕ)) (later : List (ℕ × List (List ℕ))) → join l.0 l.1 o later ≡ (l.0, with_next (goes_on_by o) (plain_by l.1 o) later) ∷ later_joined (goes_on_by o) later
    by None later = refl
    by (Some front) [] = ap (λ (ws : List (List ℕ)). (l.0, ws) ∷ []) (sym (append-nil (words front)))
    by (Some front) (next ∷ later) = refl

-- ---- hidden names
few_said : (line : ℕ) (n : NetlistData) → IfOk (few_signals line n) (λ (m : NetlistData). n ≡ m)
few_said line n = either (λ (m : NetlistData). n ≡ m) (nat_lt 65534 (length n.names)) (Err (TooMany line 65534)) (Ok n) tt refl

apart_said : (n : NetlistData) (cells : List Cell) → IfOk (apart_says n cells) (λ (m : NetlistData). all_apart n cells ≡ m)
apart_said n [] = refl
apart_said n (cell ∷ cells) =
    bind_keeps (λ (m : NetlistData). with_apart n cell ≡ m) (λ (k : NetlistData). all_apart n (cell ∷ cells) ≡ k) (few_signals cell.line (with_apart n cell)) (λ m. apart_says m cells) (few_said cell.line (with_apart n cell))
    (λ m one. weaker (λ (k : NetlistData). all_apart m cells ≡ k) (λ (k : NetlistData). all_apart n (cell ∷ cells) ≡ k) (apart_says m cells) (λ k later. ap (λ x. all_apart x cells) one ∙ later) (apart_said m cells))

cut_said : (n : NetlistData) (rams : List RamData) → IfOk (cut_says n rams) (λ (m : NetlistData). fold with_ram n rams ≡ m)
cut_said n [] = refl
cut_said n (ram ∷ rams) =
    bind_keeps (λ (m : NetlistData). with_ram n ram ≡ m) (λ (k : NetlistData). fold with_ram n (ram ∷ rams) ≡ k) (few_signals ram.line (with_ram n ram)) (λ m. cut_says m rams) (few_said ram.line (with_ram n ram))
    (λ m one. weaker (λ (k : NetlistData). fold with_ram m rams ≡ k) (λ (k : NetlistData). fold with_ram n (ram ∷ rams) ≡ k) (cut_says m rams) (λ k later. ap (λ x. fold with_ram x rams) one ∙ later) (cut_said m rams))

-- ---- the text
abbrev closed_pair : NetlistData × List RamData → ClosedNetlistData
closed_pair raw = with_rams (taken_apart raw.0) raw.1

whole_said : (o : Option ClosedSoFar) → option_map closed_whole o ≡ option_map closed_pair (option_map ended_whole o)
whole_said None = refl
whole_said (Some r) = refl

abbrev joined_text : List ℕ → List (ℕ × List (List ℕ))
joined_text text = joined (numbered 1 (lines text))

abbrev TextSaid : List ℕ → NetlistData → Type 0
TextSaid text n = closed_in text ≡ Some (with_rams n (rams_of n text))

text_said : (text : List ℕ) → IfOk (netlist_of text) (TextSaid text)
text_said text =
    bind_keeps (LinesSaid (joined_text text)) (TextSaid text) (lines_say within_limits (last_number 0 (numbered 1 (lines text))) (filled (joined_text text))) taken_apart_says (lines_said (last_number 0 (numbered 1 (lines text))) (joined_text text))
    (λ raw one. weaker (λ (n : NetlistData). taken_apart raw ≡ n) (TextSaid text) (taken_apart_says raw) (λ n is. subst (TextSaid text) is (of_raw raw one)) (apart_said (without_cells raw) raw.cells))
  where
    of_raw : (raw : NetlistData) → LinesSaid (joined_text text) raw → TextSaid text (taken_apart raw)
    of_raw raw one =
        ap (λ (ls : List (ℕ × List (List ℕ))). option_map closed_whole (blif_lines_join closed_line_joins ((empty_netlist, Nothing), []) ls)) (joined_same (numbered 1 (lines text)))
        ∙ whole_said (blif_lines_join closed_line_joins ((empty_netlist, Nothing), []) (joined_text text))
        ∙ ap (option_map closed_pair) (one (taken_apart raw) (apart_grows raw))

same_closed : (a b : ClosedNetlistData) → (let said : Result ClosedNetlistData BlifFault = Ok a in said) ≡ Ok b → a ≡ b
same_closed a b e = cc

pub text_closed : TextsSayClosedNetlists
text_closed text closed e =
    let read = bound (netlist_of text) (λ n. closed_with n (rams_of n text)) closed e in
    let cut = bound (cut_says read.value (rams_of read.value text)) (λ m. Ok (closed_by read.value (rams_of read.value text) m)) closed read.goes_on in
    let said : closed_in text ≡ Some (with_rams read.value (rams_of read.value text)) =
    subst (λ (said : Result NetlistData BlifFault). IfOk said (TextSaid text)) read.made (text_said text) in
    let netlist : fold with_ram read.value (rams_of read.value text) ≡ cut.value =
    subst (λ (said : Result NetlistData BlifFault). IfOk said (λ (m : NetlistData). fold with_ram read.value (rams_of read.value text) ≡ m)) cut.made (cut_said read.value (rams_of read.value text)) in
    said ∙ ap (λ (m : NetlistData). Some (closed_by read.value (rams_of read.value text) m)) netlist
    ∙ ap (λ (c : ClosedNetlistData). Some c) (same_closed (closed_by read.value (rams_of read.value text) cut.value) closed cut.goes_on)
