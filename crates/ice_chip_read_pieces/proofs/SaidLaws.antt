-- What lines say, line after line.
use Rattle.std.proofs.Common.{rules, ◌≡◌, ℕ, Option, None, Some, List, [], ◌∷◌, ◌++◌, Result, Ok, Err, is_ok, true≢false, refl, sym, ap, subst, ◌∙◌, append-nil}
use Rattle.ice_base.specs.Text.{words, uncommented, with_words}
use Rattle.ice_chip.specs.Answers.{chip_of, StopsBy}
use Rattle.ice_chip.specs.Database.{Parts}
use Rattle.ice_chip.specs.declared.fault.ChipFault.{ChipFault}
use Rattle.ice_chip.specs.declared.fault.ChipFault.TheVariants.{NoDevice}
use Rattle.ice_chip_read.specs.Faults.{◌>>=◌}
use Rattle.ice_chip_read.specs.Fronts.{IsTaken}
use Rattle.ice_chip_read.specs.Lines.{chip_line_says, chip_lines_say, first_says, plain_says}
use Rattle.ice_chip_read.specs.Reading.{Reading, closed}
use Rattle.ice_chip_read.specs.Stops.{fault_of}
use Rattle.ice_chip_read.specs.Views.{Stops}
use Rattle.ice_chip_read.specs.Whole.{AreReadOfLines}
use Rattle.ice_chip_read.specs.declared.fault.ChipStop.{ChipStop}
use Rattle.ice_chip_read.specs.declared.fault.ChipStop.TheVariants.{NoMemory, Fault}
use Rattle.ice_chip_read_pieces.specs.Held.{HasSaid, IsLineTaken}
use Rattle.ice_chip_read_pieces.specs.SoFar.{so_far, with_line, with_text, words_at}

-- what is held of lines
abbrev pub Said : Type 0
Said = Result (Option Reading) ChipStop

abbrev pub WordLine : Type 0
WordLine = ℕ × List (List ℕ)

-- ---- one line more
no_more : (said : Result Reading ChipFault) → said >>= (λ r. chip_lines_say r []) ≡ said
no_more (Ok r) = refl
no_more (Err fault) = refl

behind_step : (l : WordLine) (ls : List WordLine) (said : Result Reading ChipFault) → ((m : Reading) → chip_lines_say m (ls ++ l ∷ []) ≡ chip_lines_say m ls >>= (λ r. chip_line_says r l.0 l.1))
    → said >>= (λ m. chip_lines_say m (ls ++ l ∷ [])) ≡ (said >>= (λ m. chip_lines_say m ls)) >>= (λ r. chip_line_says r l.0 l.1)
behind_step l ls (Ok m) more = more m
behind_step l ls (Err fault) more = refl

lines_append : (r : Reading) (ls : List WordLine) (l : WordLine) → chip_lines_say r (ls ++ l ∷ []) ≡ chip_lines_say r ls >>= (λ m. chip_line_says m l.0 l.1)
lines_append r [] l = no_more (chip_line_says r l.0 l.1)
lines_append r (k ∷ ls) l = behind_step l ls (chip_line_says r k.0 k.1) (λ m. lines_append m ls l)

some_rows : Reading → Result (Option Reading) ChipFault
some_rows r = Ok (Some r)

with_rows : (l : WordLine) (said : Result Reading ChipFault) → (said >>= (λ m. chip_line_says m l.0 l.1)) >>= (λ r. Ok (Some r)) ≡ with_line (said >>= (λ r. Ok (Some r))) l
with_rows l (Ok m) = refl
with_rows l (Err fault) = refl

behind_first : (l : WordLine) (ls : List WordLine) (said : Result Reading ChipFault)
    → (said >>= (λ r. chip_lines_say r (ls ++ l ∷ []))) >>= (λ r. Ok (Some r)) ≡ with_line ((said >>= (λ r. chip_lines_say r ls)) >>= (λ r. Ok (Some r))) l
behind_first l ls (Ok r) = ap (λ said. said >>= (λ m. Ok (Some m))) (lines_append r ls l) ∙ with_rows l (chip_lines_say r ls)
behind_first l ls (Err fault) = refl

line_behind : (ls : List WordLine) (l : WordLine) → so_far (ls ++ l ∷ []) ≡ with_line (so_far ls) l
line_behind [] l = ap (λ said. said >>= (λ r. Ok (Some r))) (no_more (first_says l.0 l.1))
line_behind (k ∷ ls) l = behind_first l ls (first_says k.0 k.1)

-- a line that may have no words
text_alike : (said : Result (Option Reading) ChipFault) (number : ℕ) (w : List ℕ) (ws : List (List ℕ)) → with_line said (number, w ∷ ws) ≡ with_text said number (w ∷ ws)
text_alike (Err fault) number w ws = refl
text_alike (Ok None) number w ws = refl
text_alike (Ok (Some r)) number w ws = refl

no_text : (said : Result (Option Reading) ChipFault) (number : ℕ) → said ≡ with_text said number []
no_text (Err fault) number = refl
no_text (Ok None) number = refl
no_text (Ok (Some r)) number = refl

text_behind : (ls : List WordLine) (number : ℕ) (ws : List (List ℕ)) → so_far (ls ++ with_words number ws []) ≡ with_text (so_far ls) number ws
text_behind ls number [] = ap so_far (append-nil ls) ∙ no_text (so_far ls) number
text_behind ls number (w ∷ ws) = line_behind ls (number, w ∷ ws) ∙ text_alike (so_far ls) number w ws

pub text_said : (said : Said) (ls : List WordLine) (number : ℕ) (line : List ℕ) → HasSaid said (with_text (so_far ls) number (uncommented (words line))) → HasSaid said (so_far (ls ++ words_at number line))
text_said said ls number line h = subst (HasSaid said) (sym (text_behind ls number (uncommented (words line)))) h

-- a stop stays
pub stops_more : (stop : ChipStop) (ls : List WordLine) (number : ℕ) (ws : List (List ℕ)) → Stops stop (so_far ls) → Stops stop (so_far (ls ++ with_words number ws []))
stops_more NoMemory ls number ws h = tt
stops_more (Fault fault) ls number [] h = ap so_far (append-nil ls) ∙ h
stops_more (Fault fault) ls number (w ∷ ws) h = line_behind ls (number, w ∷ ws) ∙ ap (λ said. with_line said (number, w ∷ ws)) h

-- a line at the front of a text, where lines before it had words
taken_with : (r : Reading) (ls : List WordLine) (number : ℕ) (ws : List (List ℕ)) (said : Result Reading ChipFault) → so_far ls ≡ Ok (Some r) → chip_line_says r number ws ≡ said
    → with_text (so_far ls) number ws ≡ said >>= (λ more. Ok (Some more))
taken_with r ls number ws said h says = ap (λ s. with_text s number ws) h ∙ ap (λ m. m >>= (λ more. Ok (Some more))) says

pub front_taken : {X : Type 0} (r new : Reading) (number : ℕ) (text rest : List ℕ) (x : X) → IsTaken r new number text (Ok x) rest → IsLineTaken (Ok (Some r)) (Ok (Some new)) number text rest
front_taken r new number text rest x taken = record {
  line = taken.line;
  whole = taken.whole;
  ends = taken.ends;
  said = λ ls h. text_said (Ok (Some new)) ls number taken.line (taken_with r ls number (uncommented (words taken.line)) (Ok new) h taken.says);
  stopped = λ stop is. absurd (true≢false (ap is_ok is));
}

stop_with : (r : Reading) (ls : List WordLine) (number : ℕ) (ws : List (List ℕ)) (stop : ChipStop) → so_far ls ≡ Ok (Some r) → Stops stop (chip_line_says r number ws) → Stops stop (with_text (so_far ls) number ws)
stop_with r ls number ws NoMemory h says = tt
stop_with r ls number ws (Fault fault) h says = taken_with r ls number ws (Err fault) h says

pub front_stopped : {X : Type 0} (r new : Reading) (number : ℕ) (text rest : List ℕ) (stop : ChipStop) → IsTaken {X = X} r new number text (Err stop) rest → IsLineTaken (Ok (Some r)) (Err stop) number text rest
front_stopped r new number text rest stop taken = record {
  line = taken.line;
  whole = taken.whole;
  ends = taken.ends;
  said = λ ls h. text_said (Err stop) ls number taken.line (stop_with r ls number (uncommented (words taken.line)) stop h taken.says);
  stopped = λ other is. absurd (true≢false (ap is_ok is));
}

-- ---- all lines
-- what is read where a chip text says this
abbrev rows_of : Option Reading → Result Reading ChipFault
rows_of None = Err (NoDevice 0)
rows_of (Some r) = Ok r

all_rows : (said : Result Reading ChipFault) → said ≡ (said >>= (λ r. Ok (Some r))) >>= rows_of
all_rows (Ok r) = refl
all_rows (Err fault) = refl

plain_so_far : (ls : List WordLine) → plain_says ls ≡ so_far ls >>= rows_of
plain_so_far [] = refl
plain_so_far (l ∷ ls) = all_rows (plain_says (l ∷ ls))

-- the answer that is right for what is held behind all lines
abbrev pub Means : Said → Result Parts ChipFault → Type 0
Means (Ok None) said = said ≡ Err (NoDevice 0)
Means (Ok (Some r)) said = said ≡ chip_of (closed r)
Means (Err stop) said = Stops stop said

abbrev says : List WordLine → Result Parts ChipFault
says ls = (plain_says ls >>= (λ r. Ok (closed r))) >>= chip_of

abbrev ends : Result (Option Reading) ChipFault → Result Parts ChipFault
ends said = ((said >>= rows_of) >>= (λ r. Ok (closed r))) >>= chip_of

says_so_far : (ls : List WordLine) → says ls ≡ ends (so_far ls)
says_so_far ls = ap (λ said. (said >>= (λ r. Ok (closed r))) >>= chip_of) (plain_so_far ls)

pub means : (said : Said) (ls : List WordLine) → HasSaid said (so_far ls) → Means said (says ls)
means (Ok None) ls h = says_so_far ls ∙ ap ends h
means (Ok (Some r)) ls h = says_so_far ls ∙ ap ends h
means (Err NoMemory) ls h = tt
means (Err (Fault fault)) ls h = says_so_far ls ∙ ap ends h

-- the rows that are held are those of lines
pub rows_made : (r : Reading) (ls : List WordLine) → so_far ls ≡ Ok (Some r) → AreReadOfLines r
rows_made r ls h = (ls, plain_so_far ls ∙ ap (λ said. said >>= rows_of) h)

fault_answers : (fault : ChipFault) (said : Result Parts ChipFault) → said ≡ Err fault → StopsBy fault said
fault_answers fault said h = search rules

-- a stop is answered as a fault
pub stop_answers : (stop : ChipStop) (said : Result Parts ChipFault) → Stops stop said → StopsBy (fault_of stop) said
stop_answers NoMemory said h = tt
stop_answers (Fault fault) said h = fault_answers fault said h
