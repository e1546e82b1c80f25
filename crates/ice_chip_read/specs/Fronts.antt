-- What stands at the front of a text in the forms in which databases have their lines.
use Rattle.std.specs.Prelude.{◌≡◌, ◌⊎◌, ℕ, ◌<◌, ◌^◌, List, ◌∷◌, ◌++◌, true, Some, Result, length, take, codes}
use Rattle.std.specs.Str.{all_ascii_digits}
use Rattle.ice_base.specs.Lines.{IsLine}
use Rattle.ice_base.specs.Places.{bit_named, bits_named}
use Rattle.ice_base.specs.Text.{decimal_value, number_in, uncommented, words}
use Rattle.ice_base.specs.declared.bit.BitAt.{BitAt}
use Rattle.ice_chip_read.specs.Lines.{chip_line_says}
use Rattle.ice_chip_read.specs.PlainRows.{IsCutGroup, IsCutName, IsCutNet, IsCutRow, IsPlainName}
use Rattle.ice_chip_read.specs.Reading.{Reading}
use Rattle.ice_chip_read.specs.Views.{Gives}
use Rattle.ice_chip_read.specs.declared.fault.ChipStop.{ChipStop}

-- so many bytes at the front are digits that write this number
pub record AreDigits (text : List ℕ) (count number : ℕ) : Type 0 where
  pub digits : all_ascii_digits (take count text) ≡ true
  pub value : decimal_value (take count text) ≡ number
  pub below : number < 10 ^ count

-- a word that is a number, and what is behind it
pub record IsNumberAhead (text : List ℕ) (n : ℕ) (rest : List ℕ) : Type 0 where
  pub word : List ℕ
  pub whole : text ≡ word ++ rest
  pub number : number_in word ≡ Some n

-- the same where a line feed, which is 10, ends the word
pub record IsLastAhead (text : List ℕ) (n : ℕ) (rest : List ℕ) : Type 0 where
  pub word : List ℕ
  pub whole : text ≡ word ++ 10 ∷ rest
  pub number : number_in word ≡ Some n

-- a name that a line feed ends
pub record IsNameAhead (text name rest : List ℕ) : Type 0 where
  pub whole : text ≡ name ++ 10 ∷ rest
  pub plain : IsPlainName name

-- the word for a bit of some tile, which isn't in a comment, and what is behind it
pub record IsBitAhead (text : List ℕ) (bit : BitAt) (rest : List ℕ) : Type 0 where
  pub word : List ℕ
  pub whole : text ≡ word ++ rest
  pub plain : IsPlainName word
  pub named : bit_named 54 word ≡ Some bit

-- the words for bits up to the end of a line
pub record AreBitsAhead (text : List ℕ) (bits : List BitAt) (rest : List ℕ) : Type 0 where
  pub line : List ℕ
  pub whole : text ≡ line ++ 10 ∷ rest
  pub ends : IsLine line
  pub named : bits_named 54 (uncommented (words line)) ≡ Some bits
  pub some : 0 < length bits

-- `.net` and a space, and what is behind them
abbrev pub IsWireAhead : List ℕ → List ℕ → Type 0
IsWireAhead text rest = text ≡ codes ".net" ++ 32 ∷ rest

-- `.buffer` or `.routing` and a space, and what is behind them
abbrev pub AreSwitchesAhead : List ℕ → List ℕ → Type 0
AreSwitchesAhead text rest = (text ≡ codes ".buffer" ++ 32 ∷ rest) ⊎ (text ≡ codes ".routing" ++ 32 ∷ rest)

-- ---- lines
-- a row of a group of so many bits
pub record IsRowAhead (bits : ℕ) (text digits : List ℕ) (source : ℕ) (rest : List ℕ) : Type 0 where
  pub line : List ℕ
  pub whole : text ≡ line ++ 10 ∷ rest
  pub cut : IsCutRow bits line digits source

-- a name of a wire
pub record IsNameRowAhead (text : List ℕ) (at : ℕ × ℕ) (name rest : List ℕ) : Type 0 where
  pub line : List ℕ
  pub whole : text ≡ line ++ 10 ∷ rest
  pub cut : IsCutName line at name

-- the heading of a wire
pub record IsNetAhead (text : List ℕ) (wire : ℕ) (rest : List ℕ) : Type 0 where
  pub line : List ℕ
  pub whole : text ≡ line ++ 10 ∷ rest
  pub cut : IsCutNet line wire

-- the heading of a group
pub record IsGroupAhead (text : List ℕ) (numbers : ℕ × ℕ × ℕ) (bits : List BitAt) (rest : List ℕ) : Type 0 where
  pub line : List ℕ
  pub behind : List ℕ
  pub whole : text ≡ line ++ 10 ∷ rest
  pub cut : IsCutGroup line numbers behind
  pub ends : IsLine behind
  pub named : bits_named 54 (uncommented (words behind)) ≡ Some bits
  pub some : 0 < length bits

-- a line at the front was taken, with this answer
pub record IsTaken {X : Type 0} (old new : Reading) (number : ℕ) (text : List ℕ) (answer : Result X ChipStop) (rest : List ℕ) : Type 0 where
  pub line : List ℕ
  pub whole : text ≡ line ++ 10 ∷ rest
  pub ends : IsLine line
  pub says : Gives (λ _. new) answer (chip_line_says old number (uncommented (words line)))
