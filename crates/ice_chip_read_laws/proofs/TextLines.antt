-- What the reader takes of a chip text are the rows that the text says, line by line.
use Rattle.std.proofs.Common.{◌≡◌, ◌∙◌, ℕ, Bool, true, false, Option, Some, List, [], ◌∷◌, IfOk, Result, Ok, Err, refl, ap, subst, nat_lt, bytes_eq, if◌then◌else◌}
use Rattle.std.specs.Prelude.{codes}
use Rattle.std.specs.Option.{option_and_then}
use Rattle.ice_base.specs.Text.{lines, numbered, begins_with, plain_lines}
use Rattle.ice_chip.specs.Database.{Parts}
use Rattle.ice_chip.specs.Limits.{most_places, most_wires}
use Rattle.ice_chip.specs.declared.fault.ChipFault.{ChipFault}
use Rattle.ice_chip.specs.declared.fault.ChipFault.TheVariants.{NoDevice, BadName, TooMany}
use Rattle.ice_chip_read.specs.Words.{three, no_word_left, heading_of}
use Rattle.ice_chip_read.specs.Lines.{sizes_in, begun_within, device_first, heading_says, row_says, with_closed, chip_line_says, chip_lines_say, first_says, plain_says, chip_text_says}
use Rattle.ice_chip_read.specs.Reading.{Reading, begun, closed}
use Rattle.ice_chip_read_laws.specs.ChipText.{all_numbers, and_section, heading_opens, row_joins, chip_line_joins, chip_lines_join, chip_sized, device_line, chip_of_lines, chip_rows}
use Rattle.ice_chip_read_laws.specs.ChipTextLaw.{ChipTextsSayRows}
use Rattle.ice_chip_read_laws.proofs.Named.{bind_meeting}
use Rattle.ice_chip_read_laws.proofs.TextWords.{AreThree, three_read, none_left, three_numbers}
use Rattle.ice_chip_read_laws.proofs.TextSections.{section_of, seen, Alike, ended_alike}
use Rattle.ice_chip_read_laws.proofs.TextRows.{row_said}
use Rattle.ice_chip_read_laws.proofs.TextHeadings.{heading_by, heading_alike, heading_said}

-- ---- lines
moved : {A : Type 0} (f : Reading → A) (o p : Option A) (m : Result Reading ChipFault) → o ≡ p → IfOk m (λ (r : Reading). p ≡ Some (f r)) → IfOk m (λ (r : Reading). o ≡ Some (f r))
moved f o p (Ok r) e is = e ∙ is
moved f o p (Err fault) e is = tt

line_said : (r : Reading) (line : ℕ) (ws : List (List ℕ)) → Alike (chip_line_joins line ws (seen r)) (chip_line_says r line ws)
line_said r line [] = refl
line_said r line (w ∷ ws) = by (begins_with 46 w)
  where
    by : (b : Bool) → Alike (if b then heading_opens line w ws (record (seen r) { ended = and_section (section_of r.open_section r.group r.pins) r.parts }) else row_joins line (w ∷ ws) (seen r) (seen r).section) (if b then heading_says (with_closed r) line (heading_of w) ws else row_says r line r.open_section w ws)
    by true =
        moved seen (heading_opens line w ws (record (seen r) { ended = and_section (section_of r.open_section r.group r.pins) r.parts })) _ (heading_says (with_closed r) line (heading_of w) ws)
        (heading_alike line w ws (record (seen r) { ended = and_section (section_of r.open_section r.group r.pins) r.parts })
        ∙ ap (λ (parts : Parts). heading_by (heading_of w) line ws (record (seen r) { ended = parts })) (ended_alike r.open_section r.group r.pins r.parts))
        (heading_said (with_closed r) (section_of r.open_section r.group r.pins) line (heading_of w) ws)
    by false = row_said r line w ws r.open_section

lines_said : (ls : List (ℕ × List (List ℕ))) (r : Reading) → IfOk (chip_lines_say r ls) (λ (m : Reading). chip_lines_join ls (seen r) ≡ Some (closed m))
lines_said [] r = ap (λ (parts : Parts). Some parts) (ended_alike r.open_section r.group r.pins r.parts)
lines_said (l ∷ ls) r =
    bind_meeting (λ (m : Reading). chip_lines_join (l ∷ ls) (seen r) ≡ Some (closed m)) (λ (more : Reading). chip_line_joins l.0 l.1 (seen r) ≡ Some (seen more)) (chip_line_says r l.0 l.1) _ (line_said r l.0 l.1) (λ more is.
    moved closed (option_and_then (chip_lines_join ls) (chip_line_joins l.0 l.1 (seen r))) (chip_lines_join ls (seen more)) (chip_lines_say more ls) (ap (option_and_then (chip_lines_join ls)) is) (lines_said ls more))

begun_said : (line : ℕ) (sizes : ℕ × ℕ × ℕ) → IfOk (begun_within line sizes) (λ (r : Reading). chip_sized (sizes.0 ∷ sizes.1 ∷ sizes.2 ∷ []) ≡ Some (seen r))
begun_said line (width, height, wires) = by (nat_lt most_wires wires) (nat_lt most_places width) (nat_lt most_places height)
  where
    by : (a b c : Bool) → IfOk (if a then Err (TooMany most_wires) else (if b then Err (TooMany most_places) else (if c then Err (TooMany most_places) else Ok (begun line width height wires)))) (λ (r : Reading). chip_sized (width ∷ height ∷ wires ∷ []) ≡ Some (seen r))
    by true b c = tt
    by false true c = tt
    by false false true = tt
    by false false false = refl

-- by whether the device has the name that is read
sizes_said : (line : ℕ) (name : List ℕ) (ws : List (List ℕ)) → IfOk (sizes_in line (name ∷ ws)) (λ (sizes : ℕ × ℕ × ℕ). (bytes_eq name (codes "1k") ≡ true) × (all_numbers ws ≡ Some (sizes.0 ∷ sizes.1 ∷ sizes.2 ∷ [])))
sizes_said line name ws =
    bind_meeting (λ (sizes : ℕ × ℕ × ℕ). (bytes_eq name (codes "1k") ≡ true) × (all_numbers ws ≡ Some (sizes.0 ∷ sizes.1 ∷ sizes.2 ∷ []))) (λ (a : (ℕ × ℕ × ℕ) × List (List ℕ)). AreThree ws a.1 a.0.0 a.0.1 a.0.2) (three line ws) _ (three_read line ws) (λ a said.
    bind_meeting (λ (sizes : ℕ × ℕ × ℕ). (bytes_eq name (codes "1k") ≡ true) × (all_numbers ws ≡ Some (sizes.0 ∷ sizes.1 ∷ sizes.2 ∷ []))) (λ (u : Unit {0}). a.1 ≡ []) (no_word_left line a.1) _ (none_left line a.1) (λ u none.
    by a.0 (three_numbers ws a.0.0 a.0.1 a.0.2 (subst (λ (rest : List (List ℕ)). AreThree ws rest a.0.0 a.0.1 a.0.2) none said)) (bytes_eq name (codes "1k")) refl))
  where
    by : (sizes : ℕ × ℕ × ℕ) → all_numbers ws ≡ Some (sizes.0 ∷ sizes.1 ∷ sizes.2 ∷ []) → (b : Bool) → bytes_eq name (codes "1k") ≡ b
        → IfOk (if b then Ok sizes else Err (BadName line)) (λ (known : ℕ × ℕ × ℕ). (bytes_eq name (codes "1k") ≡ true) × (all_numbers ws ≡ Some (known.0 ∷ known.1 ∷ known.2 ∷ [])))
    by sizes numbers true e = (e, numbers)
    by sizes numbers false e = tt

first_said : (line : ℕ) (ws : List (List ℕ)) → IfOk (first_says line ws) (λ (r : Reading). device_line ws ≡ Some (seen r))
first_said line [] = tt
first_said line (w ∷ []) = by (bytes_eq w (codes ".device"))
  where
    by : (b : Bool) → IfOk (if b then device_first line [] else Err (NoDevice line)) (λ (r : Reading). device_line (w ∷ []) ≡ Some (seen r))
    by true = tt
    by false = tt
first_said line (w ∷ name ∷ ws) = by (bytes_eq w (codes ".device")) refl
  where
    by : (b : Bool) → bytes_eq w (codes ".device") ≡ b → IfOk (if b then device_first line (name ∷ ws) else Err (NoDevice line)) (λ (r : Reading). device_line (w ∷ name ∷ ws) ≡ Some (seen r))
    by true e =
        bind_meeting (λ (r : Reading). device_line (w ∷ name ∷ ws) ≡ Some (seen r)) (λ (sizes : ℕ × ℕ × ℕ). (bytes_eq name (codes "1k") ≡ true) × (all_numbers ws ≡ Some (sizes.0 ∷ sizes.1 ∷ sizes.2 ∷ []))) (sizes_in line (name ∷ ws)) _ (sizes_said line name ws) (λ sizes is.
        moved seen (device_line (w ∷ name ∷ ws)) (chip_sized (sizes.0 ∷ sizes.1 ∷ sizes.2 ∷ [])) (begun_within line sizes) (rw e (rw is.0 (rw is.1 refl))) (begun_said line sizes))
    by false e = tt

plain_said : (ls : List (ℕ × List (List ℕ))) → IfOk (plain_says ls) (λ (m : Reading). chip_of_lines ls ≡ Some (closed m))
plain_said [] = tt
plain_said (l ∷ ls) =
    bind_meeting (λ (m : Reading). chip_of_lines (l ∷ ls) ≡ Some (closed m)) (λ (r : Reading). device_line l.1 ≡ Some (seen r)) (first_says l.0 l.1) _ (first_said l.0 l.1) (λ r is.
    moved closed (option_and_then (chip_lines_join ls) (device_line l.1)) (chip_lines_join ls (seen r)) (chip_lines_say r ls) (ap (option_and_then (chip_lines_join ls)) is) (lines_said ls r))

text_said : (text : List ℕ) → IfOk (chip_text_says text) (λ (parts : Parts). chip_rows text ≡ Some parts)
text_said text =
    bind_meeting (λ (parts : Parts). chip_rows text ≡ Some parts) (λ (m : Reading). chip_rows text ≡ Some (closed m)) (plain_says (plain_lines (numbered 1 (lines text)))) _ (plain_said (plain_lines (numbered 1 (lines text)))) (λ r is. is)

pub text_rows : ChipTextsSayRows
text_rows text parts e = subst (λ (said : Result Parts ChipFault). IfOk said (λ (p : Parts). chip_rows text ≡ Some p)) e (text_said text)
