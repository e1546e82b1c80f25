-- A text has a chip or a first fault, and never both.
use Rattle.std.proofs.Common.{◌≡◌, ◌⊎◌, ◌↔◌, inl, inr, ℕ, List, [], ◌∷◌, ◌++◌, Option, Some, None, Result, Ok, Err, refl, sym, ap, subst, ◌∙◌}
use Rattle.ice_chip.specs.Answers.{unless_fault, chip_of}
use Rattle.ice_chip.specs.Database.{Parts}
use Rattle.ice_chip.specs.Whole.{whole_fault}
use Rattle.ice_chip.specs.declared.fault.ChipFault.{ChipFault}
use Rattle.ice_chip_read.specs.Faults.{◌>>=◌}
use Rattle.ice_chip_read.specs.FirstFault.{WordLine, NamesLine, AreSound, AreRows, HasParts, IsFirstFault, word_lines, HasChip, HasFirstFault}
use Rattle.ice_chip_read.specs.Lines.{chip_line_says, chip_lines_say, first_says, plain_says}
use Rattle.ice_chip_read.specs.Reading.{Reading, closed}
use Rattle.ice_chip_read.specs.Whole.{chip_says}
use Rattle.ice_chip_read.proofs.FaultLines.{Names, line_names, first_names}

-- ---- what lines behind the first say
-- a line has this fault, and no line before it has one
record FaultsAt (r : Reading) (ls : List WordLine) (fault : ChipFault) : Type 0 where
  before : List WordLine
  line : WordLine
  behind : List WordLine
  reached : Reading
  stands : ls ≡ before ++ line ∷ behind
  sound : AreSound r before reached
  faulty : chip_line_says reached line.0 line.1 ≡ Err fault
  names : NamesLine line.0 fault

abbrev LinesMean : Reading → List WordLine → Result Reading ChipFault → Type 0
LinesMean r ls (Ok behind) = AreSound r ls behind
LinesMean r ls (Err fault) = FaultsAt r ls fault

line_means : (r : Reading) (l : WordLine) (ls : List WordLine) (said : Result Reading ChipFault) → chip_line_says r l.0 l.1 ≡ said → ((next : Reading) → LinesMean next ls (chip_lines_say next ls))
    → LinesMean r (l ∷ ls) (said >>= (λ next. chip_lines_say next ls))
line_means r l ls (Err fault) e more = record { before = []; line = l; behind = ls; reached = r; stands = refl; sound = refl; faulty = e; names = subst (Names l.0) e (line_names r l.0 l.1) }
line_means r l ls (Ok next) e more = by (chip_lines_say next ls) (more next)
  where
    by : (said : Result Reading ChipFault) → LinesMean next ls said → LinesMean r (l ∷ ls) said
    by (Ok behind) sound = (next, e, sound)
    by (Err fault) m = record { before = l ∷ m.before; line = m.line; behind = m.behind; reached = m.reached; stands = ap (λ xs. l ∷ xs) m.stands; sound = (next, e, m.sound); faulty = m.faulty; names = m.names }

lines_mean : (r : Reading) (ls : List WordLine) → LinesMean r ls (chip_lines_say r ls)
lines_mean r [] = refl
lines_mean r (l ∷ ls) = line_means r l ls (chip_line_says r l.0 l.1) refl (λ next. lines_mean next ls)

-- ---- what all lines say
abbrev says : List WordLine → Result Parts ChipFault
says ls = (plain_says ls >>= (λ r. Ok (closed r))) >>= chip_of

abbrev Means : List WordLine → Result Parts ChipFault → Type 0
Means ls (Ok parts) = HasParts ls parts
Means ls (Err fault) = IsFirstFault ls fault

whole_means : (ls : List WordLine) (parts : Parts) → AreRows ls parts → (o : Option ChipFault) → whole_fault parts ≡ o → Means ls (unless_fault parts o)
whole_means ls parts rows None e = record { rows = rows; faultless = e }
whole_means ls parts rows (Some fault) e = inr (inr (inr (record { parts = parts; rows = rows; faulty = e })))

begun_means : (l : WordLine) (ls : List WordLine) (r : Reading) → first_says l.0 l.1 ≡ Ok r → (said : Result Reading ChipFault) → LinesMean r ls said → Means (l ∷ ls) ((said >>= (λ s. Ok (closed s))) >>= chip_of)
begun_means l ls r e (Err fault) m =
    inr (inr (inl (record { first = l; before = m.before; line = m.line; behind = m.behind; begun = r; reached = m.reached; stands = ap (λ xs. l ∷ xs) m.stands; device = e; sound = m.sound; faulty = m.faulty; names = m.names })))
begun_means l ls r e (Ok behind) sound =
    whole_means (l ∷ ls) (closed behind) (record { first = l; others = ls; begun = r; ended = behind; stands = refl; device = e; sound = sound; rows = refl }) (whole_fault (closed behind)) refl

first_means : (l : WordLine) (ls : List WordLine) (said : Result Reading ChipFault) → first_says l.0 l.1 ≡ said → Means (l ∷ ls) (((said >>= (λ r. chip_lines_say r ls)) >>= (λ s. Ok (closed s))) >>= chip_of)
first_means l ls (Err fault) e = inr (inl (record { first = l; others = ls; stands = refl; faulty = e; names = subst (Names l.0) e (first_names l.0 l.1) }))
first_means l ls (Ok r) e = begun_means l ls r e (chip_lines_say r ls) (lines_mean r ls)

means : (ls : List WordLine) → Means ls (says ls)
means [] = inl (record { none = refl; faulty = refl })
means (l ∷ ls) = first_means l ls (first_says l.0 l.1) refl

-- ---- and back
lines_sound : (r : Reading) (ls : List WordLine) (behind : Reading) → AreSound r ls behind → chip_lines_say r ls ≡ Ok behind
lines_sound r [] behind same = ap (λ x. Ok x) same
lines_sound r (l ∷ ls) behind (next, e, sound) = ap (λ said. said >>= (λ more. chip_lines_say more ls)) e ∙ lines_sound next ls behind sound

lines_fault : (r : Reading) (before : List WordLine) (line : WordLine) (behind : List WordLine) (reached : Reading) (fault : ChipFault) → AreSound r before reached → chip_line_says reached line.0 line.1 ≡ Err fault
    → chip_lines_say r (before ++ line ∷ behind) ≡ Err fault
lines_fault r [] line behind reached fault same e = ap (λ s. chip_line_says s line.0 line.1 >>= (λ more. chip_lines_say more behind)) same ∙ ap (λ said. said >>= (λ more. chip_lines_say more behind)) e
lines_fault r (l ∷ before) line behind reached fault (next, one, sound) e =
    ap (λ said. said >>= (λ more. chip_lines_say more (before ++ line ∷ behind))) one ∙ lines_fault next before line behind reached fault sound e

rows_said : (ls : List WordLine) (parts : Parts) → AreRows ls parts → (plain_says ls >>= (λ r. Ok (closed r))) ≡ Ok parts
rows_said ls parts are =
    ap (λ (xs : List WordLine). plain_says xs >>= (λ r. Ok (closed r))) are.stands
    ∙ ap (λ said. (said >>= (λ r. chip_lines_say r are.others)) >>= (λ s. Ok (closed s))) are.device
    ∙ ap (λ said. said >>= (λ s. Ok (closed s))) (lines_sound are.begun are.others are.ended are.sound)
    ∙ ap (λ x. Ok x) are.rows

parts_said : (ls : List WordLine) (parts : Parts) → HasParts ls parts → says ls ≡ Ok parts
parts_said ls parts has = ap (λ said. said >>= chip_of) (rows_said ls parts has.rows) ∙ ap (unless_fault parts) has.faultless

fault_said : (ls : List WordLine) (fault : ChipFault) → IsFirstFault ls fault → says ls ≡ Err fault
fault_said ls fault (inl empty) = ap says empty.none ∙ ap (λ f. Err f) (sym empty.faulty)
fault_said ls fault (inr (inl at)) = ap says at.stands ∙ ap (λ said. ((said >>= (λ r. chip_lines_say r at.others)) >>= (λ s. Ok (closed s))) >>= chip_of) at.faulty
fault_said ls fault (inr (inr (inl at))) =
    ap says at.stands
    ∙ ap (λ said. ((said >>= (λ r. chip_lines_say r (at.before ++ at.line ∷ at.behind))) >>= (λ s. Ok (closed s))) >>= chip_of) at.device
    ∙ ap (λ said. (said >>= (λ s. Ok (closed s))) >>= chip_of) (lines_fault at.begun at.before at.line at.behind at.reached fault at.sound at.faulty)
fault_said ls fault (inr (inr (inr at))) = ap (λ said. said >>= chip_of) (rows_said ls at.parts at.rows) ∙ ap (unless_fault at.parts) at.faulty

apart : (said : Result Parts ChipFault) (parts : Parts) (fault : ChipFault) → said ≡ Ok parts → said ≡ Err fault → ⊥
apart said parts fault good bad = cc

-- ---- texts
pub has_chip : (text : List ℕ) (parts : Parts) → (chip_says text ≡ Ok parts ↔ HasChip text parts)
has_chip text parts = (λ e. subst (Means (word_lines text)) e (means (word_lines text)), parts_said (word_lines text) parts)

pub has_fault : (text : List ℕ) (fault : ChipFault) → (chip_says text ≡ Err fault ↔ HasFirstFault text fault)
has_fault text fault = (λ e. subst (Means (word_lines text)) e (means (word_lines text)), fault_said (word_lines text) fault)

one_of_two : (ls : List WordLine) (said : Result Parts ChipFault) → Means ls said → ((parts : Parts) × HasParts ls parts) ⊎ ((fault : ChipFault) × IsFirstFault ls fault)
one_of_two ls (Ok parts) m = inl (parts, m)
one_of_two ls (Err fault) m = inr (fault, m)

pub has_one : (text : List ℕ) → ((parts : Parts) × HasChip text parts) ⊎ ((fault : ChipFault) × HasFirstFault text fault)
has_one text = one_of_two (word_lines text) (says (word_lines text)) (means (word_lines text))

pub never_both : (text : List ℕ) (parts : Parts) (fault : ChipFault) → HasChip text parts → HasFirstFault text fault → ⊥
never_both text parts fault chip first = apart (says (word_lines text)) parts fault (parts_said (word_lines text) parts chip) (fault_said (word_lines text) fault first)
