-- The same said line by line: which bits a text says, and which fault of it is the first.
use Rattle.std.specs.Prelude.{◌≡◌, ◌⊎◌, ℕ, List, [], ◌∷◌, ◌++◌, Result, Ok, Err}
use Rattle.ice_base.specs.Text.{lines, numbered, words}
use Rattle.ice_chip.specs.Database.{Parts}
use Rattle.ice_bits.specs.Configuration.{Configuration}
use Rattle.ice_asc.specs.Grammar.{Reading, start, at_line, line_says, end_says}
use Rattle.ice_asc.specs.declared.fault.AscFault.{AscFault}

-- what is read with a line more, or the fault of the line
abbrev pub with_line : Parts → Reading → ℕ × List ℕ → Result Reading AscFault
with_line parts r line = line_says parts (at_line r line.0) (words line.1)

-- none of these lines has a fault, and with them this is read
abbrev pub Leads : Parts → Reading → List (ℕ × List ℕ) → Reading → Type 0
Leads parts r [] last = r ≡ last
Leads parts r (line ∷ ls) last = (next : Reading) × (with_line parts r line ≡ Ok next) × Leads parts next ls last

-- neither a line nor the end has a fault, and these are the bits that are read
pub record AreBits (parts : Parts) (r : Reading) (ls : List (ℕ × List ℕ)) (bits : Configuration) : Type 0 where
  pub last : Reading
  pub sound : Leads parts r ls last
  pub ends : end_says last last.section ≡ Ok bits

-- a line has this fault, and no line before it has one
pub record IsFaultOfLine (parts : Parts) (r : Reading) (ls : List (ℕ × List ℕ)) (fault : AscFault) : Type 0 where
  pub before : List (ℕ × List ℕ)
  pub line : ℕ × List ℕ
  pub behind : List (ℕ × List ℕ)
  pub stands : ls ≡ before ++ line ∷ behind
  pub reading : Reading
  pub sound_before : Leads parts r before reading
  pub faulty : with_line parts reading line ≡ Err fault

-- no line has a fault, but the end has this one
pub record IsFaultOfEnd (parts : Parts) (r : Reading) (ls : List (ℕ × List ℕ)) (fault : AscFault) : Type 0 where
  pub last : Reading
  pub sound : Leads parts r ls last
  pub faulty : end_says last last.section ≡ Err fault

abbrev pub HasBits : Parts → List ℕ → Configuration → Type 0
HasBits parts text bits = AreBits parts (start parts) (numbered 1 (lines text)) bits

abbrev pub HasFirstFault : Parts → List ℕ → AscFault → Type 0
HasFirstFault parts text fault =
    IsFaultOfLine parts (start parts) (numbered 1 (lines text)) fault ⊎ IsFaultOfEnd parts (start parts) (numbered 1 (lines text)) fault
