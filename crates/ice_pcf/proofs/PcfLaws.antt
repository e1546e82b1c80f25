-- What a text says, line by line: its constraints, or the fault of the first line that has one.
use Rattle.std.proofs.Common.{◌≡◌, ◌⊎◌, ◌↔◌, inl, inr, ℕ, Bool, true, false, List, [], ◌∷◌, ◌++◌, Option, Some, None, Result, Ok, Err, if◌then◌else◌, refl, sym, ap, subst, ◌∙◌}
use Rattle.std.specs.Prelude.{codes}
use Rattle.std.specs.Str.{bytes_eq}
use Rattle.std.specs.List.{AllByRecursion, flat_map}
use Rattle.ice_base.specs.Text.{lines, numbered, words, begins_with, uncommented}
use Rattle.ice_pcf.specs.declared.constraint.Constraint.{Constraint}
use Rattle.ice_pcf.specs.declared.constraint.Options.{Options}
use Rattle.ice_pcf.specs.declared.fault.PcfFault.{PcfFault}
use Rattle.ice_pcf.specs.Grammar.{◌>>=◌, no_options, with_lenient, with_pullup, is_lenient_option, pin_says, set_io_says, words_say, pin_line_says, with_constraint, pin_lines_say, pin_text_says}
use Rattle.ice_pcf.specs.FirstFault.{IsValidLine, said_by, fault_line, AreConstraints, IsFirstFault, HasConstraints, HasFirstFault}

-- ---- a fault names its line
-- if this is a fault, it names this line
abbrev pub Names : {A : Type 0} → ℕ → Result A PcfFault → Type 0
Names line (Ok value) = Unit {0}
Names line (Err fault) = fault_line fault ≡ Some line

if_names : {A : Type 0} (line : ℕ) (test : Bool) (r s : Result A PcfFault) → Names line r → Names line s → Names line (if test then r else s)
if_names line true r s a b = a
if_names line false r s a b = b

bind_names : {A B : Type 0} (line : ℕ) (r : Result A PcfFault) (next : A → Result B PcfFault) → Names line r → ((x : A) → Names line (next x)) → Names line (r >>= next)
bind_names line (Ok value) next a b = b value
bind_names line (Err fault) next a b = a

pin_names : (line : ℕ) (options : Options) (name : List ℕ) (ws : List (List ℕ)) → Names line (pin_says line options name ws)
pin_names line options name [] = refl
pin_names line options name (pin ∷ []) = tt
pin_names line options name (pin ∷ extra ∷ ws) = refl

set_io_names : (line : ℕ) (value_due : Bool) (options : Options) (ws : List (List ℕ)) → Names line (set_io_says line value_due options ws)
set_io_names line value_due options [] = refl
set_io_names line true options (w ∷ ws) =
    if_names line (bytes_eq w (codes "yes")) _ _ (set_io_names line false (with_pullup true options) ws)
    (if_names line (bytes_eq w (codes "no")) _ _ (set_io_names line false (with_pullup false options) ws) refl)
set_io_names line false options (w ∷ ws) =
    if_names line (bytes_eq w (codes "-pullup")) _ _ (set_io_names line true options ws)
    (if_names line (is_lenient_option w) _ _ (set_io_names line false (with_lenient options) ws)
    (if_names line (begins_with 45 w) _ _ refl (pin_names line options w ws)))

words_name : (line : ℕ) (ws : List (List ℕ)) → Names line (words_say line ws)
words_name line [] = tt
words_name line (w ∷ ws) =
    if_names line (bytes_eq w (codes "set_frequency")) _ _ tt
    (if_names line (bytes_eq w (codes "set_io")) _ _ (bind_names line (set_io_says line false no_options ws) (λ constraint. Ok (Some constraint)) (set_io_names line false no_options ws) (λ x. tt)) refl)

line_names : (line : ℕ × List ℕ) → Names line.0 (pin_line_says line)
line_names line = words_name line.0 (uncommented (words line.1))

-- ---- what the lines say
with_is : (said : Option Constraint) (cs : List Constraint) → with_constraint said cs ≡ with_constraint said [] ++ cs
with_is None cs = refl
with_is (Some c) cs = refl

-- the relation that goes with what was said
abbrev pub Meant : List (ℕ × List ℕ) → Result (List Constraint) PcfFault → Type 0
Meant ls (Ok cs) = AreConstraints ls cs
Meant ls (Err f) = IsFirstFault ls f

meant_step : (l : ℕ × List ℕ) (ls : List (ℕ × List ℕ)) (r : Result (Option Constraint) PcfFault) → pin_line_says l ≡ r → (s : Result (List Constraint) PcfFault) → Meant ls s
    → Meant (l ∷ ls) (r >>= (λ c. s >>= (λ cs. Ok (with_constraint c cs))))
meant_step l ls (Err f) e s m =
    record { before = []; line = l; behind = ls; stands = refl; valid_before = tt; faulty = e; number = subst (Names l.0) e (line_names l) }
meant_step l ls (Ok said) e (Ok cs) m = record {
  valid = ((said, e), m.valid);
  in_order = with_is said cs ∙ ap (λ xs. with_constraint said [] ++ xs) m.in_order ∙ ap (λ r. said_by r ++ flat_map (λ line. said_by (pin_line_says line)) ls) (sym e);
}
meant_step l ls (Ok said) e (Err f) m = record {
  before = l ∷ m.before;
  line = m.line;
  behind = m.behind;
  stands = ap (λ xs. l ∷ xs) m.stands;
  valid_before = ((said, e), m.valid_before);
  faulty = m.faulty;
  number = m.number;
}

meant : (ls : List (ℕ × List ℕ)) → Meant ls (pin_lines_say ls)
meant [] = record { valid = tt; in_order = refl }
meant (l ∷ ls) = meant_step l ls (pin_line_says l) refl (pin_lines_say ls) (meant ls)

-- ---- never both
valid_at : (before : List (ℕ × List ℕ)) (line : ℕ × List ℕ) (behind : List (ℕ × List ℕ)) → AllByRecursion IsValidLine (before ++ line ∷ behind) → IsValidLine line
valid_at [] line behind s = s.0
valid_at (l ∷ before) line behind s = valid_at before line behind s.1

both_sides : (r : Result (Option Constraint) PcfFault) (said : Option Constraint) (f : PcfFault) → r ≡ Ok said → r ≡ Err f → ⊥
both_sides r said f a b = cc

never_both : (ls : List (ℕ × List ℕ)) (cs : List Constraint) (f : PcfFault) → AreConstraints ls cs → IsFirstFault ls f → ⊥
never_both ls cs f are first =
    let valid = valid_at first.before first.line first.behind (subst (AllByRecursion IsValidLine) first.stands are.valid) in
    both_sides (pin_line_says first.line) valid.0 f valid.1 first.faulty

-- ---- and back
fault_at : (before : List (ℕ × List ℕ)) (line : ℕ × List ℕ) (behind : List (ℕ × List ℕ)) (f : PcfFault) → AllByRecursion IsValidLine before → pin_line_says line ≡ Err f
    → pin_lines_say (before ++ line ∷ behind) ≡ Err f
fault_at [] line behind f s e = ap (λ r. r >>= (λ c. pin_lines_say behind >>= (λ cs. Ok (with_constraint c cs)))) e
fault_at (l ∷ before) line behind f s e =
    ap (λ r. r >>= (λ c. pin_lines_say (before ++ line ∷ behind) >>= (λ cs. Ok (with_constraint c cs)))) s.0.1
    ∙ ap (λ r. r >>= (λ cs. Ok (with_constraint s.0.0 cs))) (fault_at before line behind f s.1 e)

says_fault : (ls : List (ℕ × List ℕ)) (f : PcfFault) → IsFirstFault ls f → pin_lines_say ls ≡ Err f
says_fault ls f first = ap pin_lines_say first.stands ∙ fault_at first.before first.line first.behind f first.valid_before first.faulty

says_back : (ls : List (ℕ × List ℕ)) (cs : List Constraint) (r : Result (List Constraint) PcfFault) → Meant ls r → AreConstraints ls cs → r ≡ Ok cs
says_back ls cs (Ok others) m are = ap (λ xs. Ok xs) (m.in_order ∙ sym are.in_order)
says_back ls cs (Err f) m are = absurd (never_both ls cs f are m)

one_of_two : (ls : List (ℕ × List ℕ)) (r : Result (List Constraint) PcfFault) → Meant ls r → ((cs : List Constraint) × AreConstraints ls cs) ⊎ ((f : PcfFault) × IsFirstFault ls f)
one_of_two ls (Ok cs) m = inl (cs, m)
one_of_two ls (Err f) m = inr (f, m)

-- ---- texts
pub text_constraints : (text : List ℕ) (cs : List Constraint) → (pin_text_says text ≡ Ok cs ↔ HasConstraints text cs)
text_constraints text cs =
    let ls = numbered 1 (lines text) in
    (λ e. subst (Meant ls) e (meant ls), λ are. says_back ls cs (pin_lines_say ls) (meant ls) are)

pub text_fault : (text : List ℕ) (f : PcfFault) → (pin_text_says text ≡ Err f ↔ HasFirstFault text f)
text_fault text f =
    let ls = numbered 1 (lines text) in
    (λ e. subst (Meant ls) e (meant ls), λ first. says_fault ls f first)

pub text_one : (text : List ℕ) → ((cs : List Constraint) × HasConstraints text cs) ⊎ ((f : PcfFault) × HasFirstFault text f)
text_one text = let ls = numbered 1 (lines text) in one_of_two ls (pin_lines_say ls) (meant ls)

pub text_never_both : (text : List ℕ) (cs : List Constraint) (f : PcfFault) → HasConstraints text cs → HasFirstFault text f → ⊥
text_never_both text cs f are first = never_both (numbered 1 (lines text)) cs f are first
