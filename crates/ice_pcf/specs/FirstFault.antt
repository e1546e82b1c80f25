-- The same said line by line: what the constraints of a text are, and which fault of it is the first.
use Rattle.std.specs.Prelude.{◌≡◌, ℕ, List, [], ◌∷◌, ◌++◌, Option, Some, None, Result, Ok, Err}
use Rattle.std.specs.List.{AllByRecursion, flat_map}
use Rattle.ice_base.specs.Text.{lines, numbered}
use Rattle.ice_pcf.specs.declared.constraint.Constraint.{Constraint}
use Rattle.ice_pcf.specs.declared.fault.PcfFault.{PcfFault}
use Rattle.ice_pcf.specs.declared.fault.PcfFault.TheVariants.{UnknownWord, Missing, Extra, NoMemory}
use Rattle.ice_pcf.specs.Grammar.{pin_line_says, with_constraint}

-- a valid line: it says one constraint, or none
abbrev pub IsValidLine : ℕ × List ℕ → Type 0
IsValidLine line = (said : Option Constraint) × (pin_line_says line ≡ Ok said)

-- the constraint that a line says, if it says one
abbrev pub said_by : Result (Option Constraint) PcfFault → List Constraint
said_by (Ok said) = with_constraint said []
said_by (Err fault) = []

-- the number of the line that a fault names; want of memory is no fault of a text
abbrev pub fault_line : PcfFault → Option ℕ
fault_line (UnknownWord line) = Some line
fault_line (Missing line) = Some line
fault_line (Extra line) = Some line
fault_line NoMemory = None

-- every line is valid, and these are the constraints of the lines in order
pub record AreConstraints (ls : List (ℕ × List ℕ)) (constraints : List Constraint) : Type 0 where
  pub valid : AllByRecursion IsValidLine ls
  pub in_order : constraints ≡ flat_map (λ line. said_by (pin_line_says line)) ls

-- a line has this fault, which names its number, and every line before it is valid
pub record IsFirstFault (ls : List (ℕ × List ℕ)) (fault : PcfFault) : Type 0 where
  pub before : List (ℕ × List ℕ)
  pub line : ℕ × List ℕ
  pub behind : List (ℕ × List ℕ)
  pub stands : ls ≡ before ++ line ∷ behind
  pub valid_before : AllByRecursion IsValidLine before
  pub faulty : pin_line_says line ≡ Err fault
  pub number : fault_line fault ≡ Some line.0

abbrev pub HasConstraints : List ℕ → List Constraint → Type 0
HasConstraints text constraints = AreConstraints (numbered 1 (lines text)) constraints

abbrev pub HasFirstFault : List ℕ → PcfFault → Type 0
HasFirstFault text fault = IsFirstFault (numbered 1 (lines text)) fault
