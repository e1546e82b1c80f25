-- The same said line by line: which chip a text has, and which fault of it is the first.
use Rattle.std.specs.Prelude.{◌≡◌, ◌⊎◌, ℕ, List, [], ◌∷◌, ◌++◌, Some, None, Ok, Err}
use Rattle.ice_base.specs.Text.{lines, numbered, plain_lines}
use Rattle.ice_chip.specs.Database.{Parts}
use Rattle.ice_chip.specs.Whole.{whole_fault}
use Rattle.ice_chip.specs.declared.fault.ChipFault.{ChipFault}
use Rattle.ice_chip.specs.declared.fault.ChipFault.TheVariants.{NoDevice, BadNumber, BadName, OutOfRange, Twice, BadBit, BadValues, SharedFunction, LacksFunction, SharedPin, TooMany, NoMemory}
use Rattle.ice_chip_read.specs.Lines.{chip_line_says, first_says}
use Rattle.ice_chip_read.specs.Reading.{Reading, closed}

-- the number and the words of a line that has words
abbrev pub WordLine : Type 0
WordLine = ℕ × List (List ℕ)

-- no line has a fault: the rows that are read before these lines, and those behind them
abbrev pub AreSound : Reading → List WordLine → Reading → Type 0
AreSound before [] behind = before ≡ behind
AreSound before (line ∷ others) behind = (next : Reading) × (chip_line_says before line.0 line.1 ≡ Ok next) × AreSound next others behind

-- the first line is that of a device, no line has a fault, and these are the rows of the lines
pub record AreRows (ls : List WordLine) (parts : Parts) : Type 0 where
  pub first : WordLine
  pub others : List WordLine
  pub begun : Reading
  pub ended : Reading
  pub stands : ls ≡ first ∷ others
  pub device : first_says first.0 first.1 ≡ Ok begun
  pub sound : AreSound begun others ended
  pub rows : closed ended ≡ parts

-- these are the rows, and they have no fault of the whole
pub record HasParts (ls : List WordLine) (parts : Parts) : Type 0 where
  pub rows : AreRows ls parts
  pub faultless : whole_fault parts ≡ None

-- the fault names this line, as the later one where it names two; that there are too many names none
abbrev pub NamesLine : ℕ → ChipFault → Type 0
NamesLine line (NoDevice at) = at ≡ line
NamesLine line (BadNumber at) = at ≡ line
NamesLine line (BadName at) = at ≡ line
NamesLine line (OutOfRange at) = at ≡ line
NamesLine line (Twice at other) = at ≡ line
NamesLine line (BadBit at) = at ≡ line
NamesLine line (BadValues at) = at ≡ line
NamesLine line (SharedFunction at other) = at ≡ line
NamesLine line (LacksFunction at) = at ≡ line
NamesLine line (SharedPin at other) = at ≡ line
NamesLine line (TooMany limit) = Unit {0}
NamesLine line NoMemory = ⊥

-- the first line has this fault, which names it
pub record IsFirstOfDevice (ls : List WordLine) (fault : ChipFault) : Type 0 where
  pub first : WordLine
  pub others : List WordLine
  pub stands : ls ≡ first ∷ others
  pub faulty : first_says first.0 first.1 ≡ Err fault
  pub names : NamesLine first.0 fault

-- a later line has this fault, which names it, and no line before it has one
pub record IsFirstOfLines (ls : List WordLine) (fault : ChipFault) : Type 0 where
  pub first : WordLine
  pub before : List WordLine
  pub line : WordLine
  pub behind : List WordLine
  pub begun : Reading
  pub reached : Reading
  pub stands : ls ≡ first ∷ (before ++ line ∷ behind)
  pub device : first_says first.0 first.1 ≡ Ok begun
  pub sound : AreSound begun before reached
  pub faulty : chip_line_says reached line.0 line.1 ≡ Err fault
  pub names : NamesLine line.0 fault

-- no line has a fault, and this is the first fault of the whole
pub record IsFirstOfWhole (ls : List WordLine) (fault : ChipFault) : Type 0 where
  pub parts : Parts
  pub rows : AreRows ls parts
  pub faulty : whole_fault parts ≡ Some fault

-- no line has words
pub record IsEmpty (ls : List WordLine) (fault : ChipFault) : Type 0 where
  pub none : ls ≡ []
  pub faulty : fault ≡ NoDevice 0

abbrev pub IsFirstFault : List WordLine → ChipFault → Type 0
IsFirstFault ls fault = IsEmpty ls fault ⊎ (IsFirstOfDevice ls fault ⊎ (IsFirstOfLines ls fault ⊎ IsFirstOfWhole ls fault))

-- the lines of a text that have words
abbrev pub word_lines : List ℕ → List WordLine
word_lines text = plain_lines (numbered 1 (lines text))

abbrev pub HasChip : List ℕ → Parts → Type 0
HasChip text parts = HasParts (word_lines text) parts

abbrev pub HasFirstFault : List ℕ → ChipFault → Type 0
HasFirstFault text fault = IsFirstFault (word_lines text) fault
