-- What a text says, line by line: its netlist, or its first fault.
use Rattle.std.proofs.Common.{◌≡◌, ◌⊎◌, ◌↔◌, inl, inr, ℕ, Bool, true, false, List, [], ◌∷◌, ◌++◌, Result, Ok, Err, if◌then◌else◌, refl, sym, ap, ◌∙◌, append-nil}
use Rattle.std.specs.List.{AllByRecursion}
use Rattle.ice_base.specs.Text.{lines, numbered}
use Rattle.ice_net.specs.NetlistData.{NetlistData}
use Rattle.ice_blif.specs.declared.fault.BlifFault.{BlifFault}
use Rattle.ice_blif.specs.declared.fault.BlifFault.TheVariants.{NoModel, SecondModel, NoEnd}
use Rattle.ice_blif.specs.JoinedLines.{FilledLine, joined, filled, last_number}
use Rattle.ice_blif.specs.State.{finished}
use Rattle.ice_blif.specs.Reading.{NetReading}
use Rattle.ice_blif.specs.Cells.{◌>>=◌}
use Rattle.ice_blif.specs.Grammar.{within_limits, line_says, after_end, ended, model_says, empty_reader, lines_say, text_says, netlist_of, HasNetlist, IsWithinLimits}
use Rattle.ice_blif.specs.Registers.{without_cells}
use Rattle.ice_blif.specs.FewSignals.{taken_apart_says}
use Rattle.ice_blif.specs.FirstFault.{is_model, is_end, LeadsTo, IsSecondModel, IsModelFault, in_line, no_end, behind_end, IsFirstFault, no_line, no_model, in_model, HasFirstFault, in_lines, hidden}
use Rattle.ice_blif.proofs.Apart.{apart_told, apart_faulty}
use Rattle.ice_blif.proofs.Growing.{text_small}
use Rattle.ice_blif.proofs.WholeTexts.{netlist_has, netlist_within, has_within}

same_fault : {A : Type 0} (e f : BlifFault) → (let said : Result A BlifFault = Err e in said) ≡ Err f → e ≡ f
same_fault e f h = cc

-- ---- behind `.end`
second_here : (l : FilledLine) (ls : List FilledLine) (f : BlifFault) → is_model l ≡ true → SecondModel l.number ≡ f → IsSecondModel (l ∷ ls) f
second_here l ls f is e = record { between = []; line = l; behind = ls; stands = refl; first = tt; model = is; told = sym e }

second_later : (l : FilledLine) (ls : List FilledLine) (f : BlifFault) → is_model l ≡ false → IsSecondModel ls f → IsSecondModel (l ∷ ls) f
second_later l ls f is h = record {
  between = l ∷ h.between;
  line = h.line;
  behind = h.behind;
  stands = ap (λ xs. l ∷ xs) h.stands;
  first = (is, h.first);
  model = h.model;
  told = h.told;
}

second_by : (l : FilledLine) (ls : List FilledLine) (f : BlifFault) (b : Bool) → is_model l ≡ b → (after_end ls ≡ Err f → IsSecondModel ls f)
    → (if b then Err (SecondModel l.number) else after_end ls) ≡ Err f → IsSecondModel (l ∷ ls) f
second_by l ls f true is rest e = second_here l ls f is (same_fault {A = Unit {0}} (SecondModel l.number) f e)
second_by l ls f false is rest e = second_later l ls f is (rest e)

second_told : (ls : List FilledLine) (f : BlifFault) → after_end ls ≡ Err f → IsSecondModel ls f
second_told [] f e = absurd (cc)
second_told (l ∷ ls) f e = second_by l ls f (is_model l) refl (second_told ls f) e

after_between : (between : List FilledLine) (line : FilledLine) (behind : List FilledLine) → AllByRecursion (λ l. is_model l ≡ false) between → is_model line ≡ true
    → after_end (between ++ line ∷ behind) ≡ Err (SecondModel line.number)
after_between [] line behind h is = ap (λ b. if b then Err (SecondModel line.number) else after_end behind) is
after_between (l ∷ between) line behind h is =
    ap (λ b. if b then Err (SecondModel l.number) else after_end (between ++ line ∷ behind)) h.0 ∙ after_between between line behind h.1 is

second_says : (ls : List FilledLine) (f : BlifFault) → IsSecondModel ls f → after_end ls ≡ Err f
second_says ls f h = ap after_end h.stands ∙ after_between h.between h.line h.behind h.first h.model ∙ ap (λ e. Err e) (sym h.told)

-- ---- the lines of a model
ended_told : (r : NetReading) (ls : List FilledLine) (f : BlifFault) (x : Result (Unit {0}) BlifFault) → after_end ls ≡ x → (x >>= (λ u. Ok (finished r.netlist r.last))) ≡ Err f → after_end ls ≡ Err f
ended_told r ls f (Ok u) is e = absurd (cc)
ended_told r ls f (Err g) is e = is ∙ ap (λ h. Err h) (same_fault {A = NetlistData} g f e)

later : (last : ℕ) (r s : NetReading) (l : FilledLine) (ls : List FilledLine) (f : BlifFault) → is_end l ≡ false → line_says within_limits l r ≡ Ok s → IsModelFault last s ls f → IsModelFault last r (l ∷ ls) f
later last r s l ls f n said (in_line before line behind t at leads ne e) = in_line (l ∷ before) line behind t (ap (λ xs. l ∷ xs) at) (n, s, said, leads) ne e
later last r s l ls f n said (no_end t leads e) = no_end t (n, s, said, leads) e
later last r s l ls f n said (behind_end before end behind t at leads ends second) = behind_end (l ∷ before) end behind t (ap (λ xs. l ∷ xs) at) (n, s, said, leads) ends second

line_told : (last : ℕ) (r : NetReading) (l : FilledLine) (ls : List FilledLine) (f : BlifFault) (x : Result NetReading BlifFault) → is_end l ≡ false → line_says within_limits l r ≡ x
    → ((s : NetReading) → model_says within_limits last s ls ≡ Err f → IsModelFault last s ls f)
    → (x >>= (λ s. model_says within_limits last s ls)) ≡ Err f → IsModelFault last r (l ∷ ls) f
line_told last r l ls f (Ok s) n is rest e = later last r s l ls f n is (rest s e)
line_told last r l ls f (Err g) n is rest e = in_line [] l ls r refl refl n (is ∙ ap (λ h. Err h) (same_fault {A = NetlistData} g f e))

model_told_by : (last : ℕ) (r : NetReading) (l : FilledLine) (ls : List FilledLine) (f : BlifFault) (b : Bool) → is_end l ≡ b
    → ((s : NetReading) → model_says within_limits last s ls ≡ Err f → IsModelFault last s ls f)
    → (if b then ended r ls else line_says within_limits l r >>= (λ s. model_says within_limits last s ls)) ≡ Err f → IsModelFault last r (l ∷ ls) f
model_told_by last r l ls f true is rest e = behind_end [] l ls r refl refl is (second_told ls f (ended_told r ls f (after_end ls) refl e))
model_told_by last r l ls f false is rest e = line_told last r l ls f (line_says within_limits l r) is refl rest e

model_told : (last : ℕ) (r : NetReading) (ls : List FilledLine) (f : BlifFault) → model_says within_limits last r ls ≡ Err f → IsModelFault last r ls f
model_told last r [] f e = no_end r refl (sym (same_fault {A = NetlistData} (NoEnd last) f e))
model_told last r (l ∷ ls) f e = model_told_by last r l ls f (is_end l) refl (λ s h. model_told last s ls f h) e

-- lines that lead to a state are read, and then the lines behind them
led : (last : ℕ) (before : List FilledLine) (r s : NetReading) (rest : List FilledLine) → LeadsTo r before s → model_says within_limits last r (before ++ rest) ≡ model_says within_limits last s rest
led last [] r s rest h = ap (λ t. model_says within_limits last t rest) h
led last (l ∷ before) r s rest h =
    ap (λ b. if b then ended r (before ++ rest) else line_says within_limits l r >>= (λ t. model_says within_limits last t (before ++ rest))) h.0
    ∙ ap (λ x. x >>= (λ t. model_says within_limits last t (before ++ rest))) h.2 ∙ led last before h.1 s rest h.3

model_faulty : (last : ℕ) (r : NetReading) (ls : List FilledLine) (f : BlifFault) → IsModelFault last r ls f → model_says within_limits last r ls ≡ Err f
model_faulty last r ls f (in_line before line behind s at leads n e) =
    ap (model_says within_limits last r) at ∙ led last before r s (line ∷ behind) leads
    ∙ ap (λ b. if b then ended s behind else line_says within_limits line s >>= (λ t. model_says within_limits last t behind)) n
    ∙ ap (λ x. x >>= (λ t. model_says within_limits last t behind)) e
model_faulty last r ls f (no_end s leads e) =
    ap (model_says within_limits last r) (sym (append-nil ls)) ∙ led last ls r s [] leads ∙ ap (λ g. Err g) (sym e)
model_faulty last r ls f (behind_end before end behind s at leads ends second) =
    ap (model_says within_limits last r) at ∙ led last before r s (end ∷ behind) leads
    ∙ ap (λ b. if b then ended s behind else line_says within_limits end s >>= (λ t. model_says within_limits last t behind)) ends
    ∙ ap (λ x. x >>= (λ u. Ok (finished s.netlist s.last))) (second_says behind f second)

-- ---- the lines of a text
lines_told_by : (last : ℕ) (l : FilledLine) (ls : List FilledLine) (f : BlifFault) (b : Bool) → is_model l ≡ b
    → (if b then model_says within_limits last empty_reader ls else Err (NoModel l.number)) ≡ Err f → IsFirstFault last (l ∷ ls) f
lines_told_by last l ls f true is e = in_model l ls refl is (model_told last empty_reader ls f e)
lines_told_by last l ls f false is e = no_model l ls refl is (sym (same_fault {A = NetlistData} (NoModel l.number) f e))

lines_told : (last : ℕ) (ls : List FilledLine) (f : BlifFault) → lines_say within_limits last ls ≡ Err f → IsFirstFault last ls f
lines_told last [] f e = no_line refl (sym (same_fault {A = NetlistData} (NoModel 0) f e))
lines_told last (l ∷ ls) f e = lines_told_by last l ls f (is_model l) refl e

lines_faulty : (last : ℕ) (ls : List FilledLine) (f : BlifFault) → IsFirstFault last ls f → lines_say within_limits last ls ≡ Err f
lines_faulty last ls f (no_line at e) = ap (lines_say within_limits last) at ∙ ap (λ g. Err g) (sym e)
lines_faulty last ls f (no_model first others at is e) =
    ap (lines_say within_limits last) at ∙ ap (λ b. if b then model_says within_limits last empty_reader others else Err (NoModel first.number)) is ∙ ap (λ g. Err g) (sym e)
lines_faulty last ls f (in_model first others at is h) =
    ap (lines_say within_limits last) at ∙ ap (λ b. if b then model_says within_limits last empty_reader others else Err (NoModel first.number)) is
    ∙ model_faulty last empty_reader others f h

-- ---- texts
both_sides : (r : Result NetlistData BlifFault) (n : NetlistData) (f : BlifFault) → r ≡ Ok n → r ≡ Err f → ⊥
both_sides r n f a b = cc

pub text_netlist : (text : List ℕ) (n : NetlistData) → (netlist_of text ≡ Ok n ↔ (HasNetlist text n × IsWithinLimits text n))
text_netlist text n = (λ e. (netlist_has text n e, netlist_within text n e), λ h. has_within text n h.0 h.1)

fault_told : (text : List ℕ) (f : BlifFault) (x : Result NetlistData BlifFault) → text_says within_limits text ≡ x → (x >>= taken_apart_says) ≡ Err f → HasFirstFault text f
fault_told text f (Ok raw) is e = hidden raw is (apart_told (without_cells raw) raw.cells f (text_small text raw is).signals e)
fault_told text f (Err g) is e =
    in_lines (lines_told (last_number 0 (numbered 1 (lines text))) (filled (joined (numbered 1 (lines text)))) f (is ∙ ap (λ h. Err h) (same_fault {A = NetlistData} g f e)))

fault_said : (text : List ℕ) (f : BlifFault) → HasFirstFault text f → netlist_of text ≡ Err f
fault_said text f (in_lines h) = ap (λ x. x >>= taken_apart_says) (lines_faulty (last_number 0 (numbered 1 (lines text))) (filled (joined (numbered 1 (lines text)))) f h)
fault_said text f (hidden raw is h) = ap (λ x. x >>= taken_apart_says) is ∙ apart_faulty (without_cells raw) raw.cells f h

pub text_fault : (text : List ℕ) (f : BlifFault) → (netlist_of text ≡ Err f ↔ HasFirstFault text f)
text_fault text f = (fault_told text f (text_says within_limits text) refl, fault_said text f)

text_one_by : (text : List ℕ) (r : Result NetlistData BlifFault) → netlist_of text ≡ r
    → ((n : NetlistData) × HasNetlist text n × IsWithinLimits text n) ⊎ ((f : BlifFault) × HasFirstFault text f)
text_one_by text (Ok n) e = inl (n, netlist_has text n e, netlist_within text n e)
text_one_by text (Err f) e = inr (f, (text_fault text f).0 e)

pub text_one : (text : List ℕ) → ((n : NetlistData) × HasNetlist text n × IsWithinLimits text n) ⊎ ((f : BlifFault) × HasFirstFault text f)
text_one text = text_one_by text (netlist_of text) refl

pub text_never_both : (text : List ℕ) (n : NetlistData) (f : BlifFault) → HasNetlist text n → IsWithinLimits text n → HasFirstFault text f → ⊥
text_never_both text n f has small first = both_sides (netlist_of text) n f (has_within text n has small) ((text_fault text f).1 first)
