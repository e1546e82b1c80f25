-- A text that says a closed netlist without RAMs says the netlist alone.
use Rattle.std.proofs.Common.{◌≡◌, ◌∙◌, ℕ, Bool, true, false, List, [], ◌∷◌, map, replicate, reverse, drop, Option, Some, None, option_map, IfSome, if◌then◌else◌, codes, bytes_eq, refl, ap, sym}
use Rattle.std.specs.Option.{option_and_then}
use Rattle.std.proofs.lemmas.List.{reverse-reverse}
use Rattle.ice_base.specs.Text.{lines, numbered}
use Rattle.ice_net.specs.NetlistData.{NetlistData, empty_netlist}
use Rattle.ice_blif.specs.State.{LastCell, Nothing, Gate, Memory, Rows}
use Rattle.ice_ram_words.specs.declared.kind.Edges.{Edges}
use Rattle.ice_ram_words.specs.Words.{place}
use Rattle.ice_ram_read.specs.RamData.{RamData, new_ram}
use Rattle.ice_ram_read.specs.ClosedNetlists.{ClosedNetlistData, ram_of, without_rams}
use Rattle.ice_blif_laws.specs.NetlistText.{NetSoFar, Wiring, joined_lines, connections_join, blif_line_joins, model_lines, blif_lines_join, whole, netlist_in}
use Rattle.ice_blif_laws.specs.ClosedText.{ClosedSoFar, ram_edges, ram_joins, ram_param, closed_joins, closed_line_joins, with_rams, closed_whole}
use Rattle.ice_blif_laws.specs.NetlistTextLaw.{NetlistTextsSayNetlists}
use Rattle.ice_blif_laws.proofs.TextMoves.{some_then, some_mapped, some_any, some_weaker}
use Rattle.ice_blif_laws.proofs.ClosedTexts.{text_closed}

-- where no RAM is said behind a step, none was before it, and the step is that of a text without RAMs
abbrev Alone : List RamData → Option NetSoFar → ClosedSoFar → Type 0
Alone rams plain s = s.1 ≡ [] → (rams ≡ []) × (plain ≡ Some s.0)

no_first : {A : Type 0} (x : A) (xs : List A) → x ∷ xs ≡ [] → ⊥
no_first x xs e = cc

-- a parameter leaves no fewer RAMs
param_alone : (last : LastCell) (words : List (List ℕ)) (rams : List RamData) → ram_param last words rams ≡ [] → rams ≡ []
param_alone last words [] e = refl
param_alone Memory words (ram ∷ rams) e = absurd (cc)
param_alone Nothing words (ram ∷ rams) e = e
param_alone (Gate cell) words (ram ∷ rams) e = e
param_alone (Rows cover) words (ram ∷ rams) e = e

line_alone : (line : ℕ) (first : List ℕ) (others : List (List ℕ)) (r : ClosedSoFar) → IfSome (closed_line_joins line first others r) (Alone r.1 (blif_line_joins line first others r.0))
line_alone line first others r = by (ram_edges first others)
  where
    rams_alone : (b : Bool) → (if b then ram_param r.0.1 others r.1 else r.1) ≡ [] → r.1 ≡ []
    rams_alone true e = param_alone r.0.1 others r.1 e
    rams_alone false e = e

    plain : (o : Option NetSoFar) → IfSome (option_map (λ n. (n, if bytes_eq first (codes ".param") then ram_param r.0.1 others r.1 else r.1)) o) (Alone r.1 o)
    plain None = tt
    plain (Some n) = λ none. (rams_alone (bytes_eq first (codes ".param")) none, refl)

    by : (o : Option Edges) → IfSome (closed_joins o line first others r) (Alone r.1 (blif_line_joins line first others r.0))
    by None = plain (blif_line_joins line first others r.0)
    by (Some edges) =
        some_mapped (Alone r.1 (blif_line_joins line first others r.0)) (λ (c : Wiring). Unit {0}) (connections_join 60 (place edges) (drop 1 others) (r.0.0, replicate 76 None)) (ram_joins line edges r)
        (some_any (connections_join 60 (place edges) (drop 1 others) (r.0.0, replicate 76 None))) (λ c u none. absurd (no_first (new_ram line edges c.1) r.1 none))

model_alone : (js : List (ℕ × List (List ℕ))) (r : ClosedSoFar) → IfSome (model_lines closed_line_joins js r) (Alone r.1 (model_lines blif_line_joins js r.0))
model_alone [] r = tt
model_alone ((line, []) ∷ js) r = model_alone js r
model_alone ((line, first ∷ others) ∷ js) r = by (bytes_eq first (codes ".end")) (λ s. model_alone js s)
  where
    by : (b : Bool) → ((s : ClosedSoFar) → IfSome (model_lines closed_line_joins js s) (Alone s.1 (model_lines blif_line_joins js s.0))) → IfSome (if b then Some r else option_and_then (model_lines closed_line_joins js) (closed_line_joins line first others r))
        (Alone r.1 (if b then Some r.0 else option_and_then (model_lines blif_line_joins js) (blif_line_joins line first others r.0)))
    by true later = λ none. (none, refl)
    by false later =
        some_then (Alone r.1 (option_and_then (model_lines blif_line_joins js) (blif_line_joins line first others r.0))) (Alone r.1 (blif_line_joins line first others r.0)) (closed_line_joins line first others r) (model_lines closed_line_joins js)
        (line_alone line first others r) (λ s one. some_weaker (Alone s.1 (model_lines blif_line_joins js s.0)) (Alone r.1 (option_and_then (model_lines blif_line_joins js) (blif_line_joins line first others r.0))) (model_lines closed_line_joins js s)
        (λ k behind none. let rest = behind none in let step = one rest.0 in (step.0, ap (option_and_then (model_lines blif_line_joins js)) step.1 ∙ rest.1)) (later s))

lines_alone : (js : List (ℕ × List (List ℕ))) → IfSome (blif_lines_join closed_line_joins ((empty_netlist, Nothing), []) js) (Alone [] (blif_lines_join blif_line_joins (empty_netlist, Nothing) js))
lines_alone [] = tt
lines_alone ((line, []) ∷ js) = lines_alone js
lines_alone ((line, first ∷ others) ∷ js) = by (bytes_eq first (codes ".model"))
  where
    by : (b : Bool) → IfSome (if b then model_lines closed_line_joins js ((empty_netlist, Nothing), []) else None) (Alone [] (if b then model_lines blif_line_joins js (empty_netlist, Nothing) else None))
    by true = model_alone js ((empty_netlist, Nothing), [])
    by false = tt

-- ---- the text
none_mapped : (rams : List RamData) → map ram_of rams ≡ [] → rams ≡ []
none_mapped [] e = refl
none_mapped (ram ∷ rams) e = absurd (no_first (ram_of ram) (map ram_of rams) e)

none_reversed : (rams : List RamData) → reverse rams ≡ [] → rams ≡ []
none_reversed rams e = sym (reverse-reverse rams) ∙ ap reverse e

same_closed : (a b : ClosedNetlistData) → (let said : Option ClosedNetlistData = Some a in said) ≡ Some b → a ≡ b
same_closed a b e = cc

abbrev lines_of : List ℕ → List (ℕ × List (List ℕ))
lines_of text = joined_lines (numbered 1 (lines text))

pub text_netlists : NetlistTextsSayNetlists
text_netlists text n e = by (blif_lines_join closed_line_joins ((empty_netlist, Nothing), []) (lines_of text)) (lines_alone (lines_of text)) (text_closed text (without_rams n) e)
  where
    by : (o : Option ClosedSoFar) → IfSome o (Alone [] (blif_lines_join blif_line_joins (empty_netlist, Nothing) (lines_of text))) → option_map closed_whole o ≡ Some (without_rams n) → netlist_in text ≡ Some n
    by None alone is = absurd (cc)
    by (Some s) alone is =
        let same : closed_whole s ≡ without_rams n = same_closed (closed_whole s) (without_rams n) is in
        let none : s.1 ≡ [] = none_reversed s.1 (none_mapped (reverse s.1) (ap (λ (c : ClosedNetlistData). c.rams) same)) in
        let netlist : whole s.0 ≡ n = ap (λ (rams : List RamData). (with_rams (whole s.0) (reverse rams)).netlist) (sym none) ∙ ap (λ (c : ClosedNetlistData). c.netlist) same in
        ap (option_map whole) (alone none).1 ∙ ap (λ (m : NetlistData). Some m) netlist
