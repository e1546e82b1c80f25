-- The same said line by line: which fault of a text is the first.
use Rattle.std.specs.Prelude.{◌≡◌, ◌<◌, ◌≤◌, ℕ, Bool, true, false, List, [], ◌∷◌, ◌++◌, length, Ok, Err, codes, bytes_eq}
use Rattle.std.specs.List.{AllByRecursion}
use Rattle.ice_base.specs.Text.{lines, numbered}
use Rattle.ice_net.specs.declared.cell.Cell.{Cell}
use Rattle.ice_net.specs.NetlistData.{NetlistData}
use Rattle.ice_blif.specs.declared.fault.BlifFault.{BlifFault}
use Rattle.ice_blif.specs.declared.fault.BlifFault.TheVariants.{NoModel, SecondModel, NoEnd, TooMany}
use Rattle.ice_blif.specs.JoinedLines.{FilledLine, joined, filled, last_number}
use Rattle.ice_blif.specs.Reading.{NetReading}
use Rattle.ice_blif.specs.Grammar.{within_limits, line_says, empty_reader, text_says}
use Rattle.ice_blif.specs.Registers.{with_apart, all_apart, without_cells}

-- the first word of a line is `.model`
abbrev pub is_model : FilledLine → Bool
is_model l = bytes_eq l.first (codes ".model")

-- the first word of a line is `.end`
abbrev pub is_end : FilledLine → Bool
is_end l = bytes_eq l.first (codes ".end")

-- lines of a model, none of which is `.end` or has a fault, lead from one state to another
abbrev pub LeadsTo : NetReading → List FilledLine → NetReading → Type 0
LeadsTo r [] s = r ≡ s
LeadsTo r (l ∷ ls) s = (is_end l ≡ false) × (t : NetReading) × (line_says within_limits l r ≡ Ok t) × LeadsTo t ls s

-- the fault of the first of these lines that is `.model`
pub record IsSecondModel (ls : List FilledLine) (fault : BlifFault) : Type 0 where
  pub between : List FilledLine
  pub line : FilledLine
  pub behind : List FilledLine
  pub stands : ls ≡ between ++ line ∷ behind
  pub first : AllByRecursion (λ l. is_model l ≡ false) between
  pub model : is_model line ≡ true
  pub told : fault ≡ SecondModel line.number

-- The first fault of the lines behind `.model`, from a state on, in a text whose last line has the number `last`.
pub data IsModelFault (last : ℕ) (r : NetReading) (ls : List FilledLine) (fault : BlifFault) : Type 0 where
  -- a line has it, and no line before it has one or is `.end`
  in_line : (before : List FilledLine) (line : FilledLine) (behind : List FilledLine) (s : NetReading) → ls ≡ before ++ line ∷ behind → LeadsTo r before s → is_end line ≡ false → line_says within_limits line s ≡ Err fault → IsModelFault last r ls fault
  -- no line has one, and none is `.end`
  no_end : (s : NetReading) → LeadsTo r ls s → fault ≡ NoEnd last → IsModelFault last r ls fault
  -- no line up to `.end` has one, and behind it stands a second `.model`
  behind_end : (before : List FilledLine) (end : FilledLine) (behind : List FilledLine) (s : NetReading) → ls ≡ before ++ end ∷ behind → LeadsTo r before s → is_end end ≡ true → IsSecondModel behind fault → IsModelFault last r ls fault

-- The first fault of the lines of a text whose joined lines with words are these, and whose last line has the number `last`.
pub data IsFirstFault (last : ℕ) (ls : List FilledLine) (fault : BlifFault) : Type 0 where
  -- no line has a word
  no_line : ls ≡ [] → fault ≡ NoModel 0 → IsFirstFault last ls fault
  -- the first line is no `.model`
  no_model : (first : FilledLine) (others : List FilledLine) → ls ≡ first ∷ others → is_model first ≡ false → fault ≡ NoModel first.number → IsFirstFault last ls fault
  -- the lines behind `.model` have it
  in_model : (first : FilledLine) (others : List FilledLine) → ls ≡ first ∷ others → is_model first ≡ true → IsModelFault last empty_reader others fault → IsFirstFault last ls fault

-- A hidden signal is one too many: those of the cells before are not, and that of this one is.
pub record IsOneTooMany (n : NetlistData) (cells : List Cell) (fault : BlifFault) : Type 0 where
  pub before : List Cell
  pub cell : Cell
  pub behind : List Cell
  pub stands : cells ≡ before ++ cell ∷ behind
  pub few : length (all_apart n before).names ≤ 65534
  pub many : 65534 < length (with_apart (all_apart n before) cell).names
  pub told : fault ≡ TooMany cell.line 65534

-- The text has this first fault.
pub data HasFirstFault (text : List ℕ) (fault : BlifFault) : Type 0 where
  -- its lines have it
  in_lines : IsFirstFault (last_number 0 (numbered 1 (lines text))) (filled (joined (numbered 1 (lines text)))) fault → HasFirstFault text fault
  -- its lines have none, and a hidden signal is one too many
  hidden : (raw : NetlistData) → text_says within_limits text ≡ Ok raw → IsOneTooMany (without_cells raw) raw.cells fault → HasFirstFault text fault
