-- Lines in the forms in which databases have them: words with one space, which is 32, between them.
use Rattle.std.specs.Prelude.{◌≡◌, ℕ, ◌<◌, ◌⊎◌, List, [], ◌∷◌, ◌++◌, Bool, true, false, Some, codes, length, nat_eq, nat_lt, if◌then◌else◌, Result, Ok, Err}
use Rattle.std.specs.Map.{lookup}
use Rattle.ice_base.specs.Text.{begins_with, number_in}
use Rattle.ice_base.specs.Lines.{IsWord}
use Rattle.ice_base.specs.declared.bit.BitAt.{BitAt}
use Rattle.ice_chip.specs.Limits.{most_rows}
use Rattle.ice_chip.specs.declared.fault.ChipFault.{ChipFault}
use Rattle.ice_chip.specs.declared.fault.ChipFault.TheVariants.{TooMany}
use Rattle.ice_chip_read.specs.Faults.{◌>>=◌}
use Rattle.ice_chip_read.specs.Lines.{tile_in, unseen, wire_in, with_group, with_net, with_row}
use Rattle.ice_chip_read.specs.Reading.{Reading}

-- a row joins the group that is open, where there are not too many rows
abbrev pub row_joins : Reading → ℕ → List Bool → ℕ → Result Reading ChipFault
row_joins r line values source = if nat_lt r.rows most_rows then Ok (with_row r line values source) else Err (TooMany most_rows)

-- the same of the wire of a number
abbrev pub row_comes : Reading → ℕ → List Bool → ℕ → Result Reading ChipFault
row_comes r line values source = wire_in line r.parts source >>= row_joins r line values

-- the line is bytes in the number of the bits, a space, which is 32, and the number of the source
pub record IsCutRow (bits : ℕ) (text digits : List ℕ) (source : ℕ) : Type 0 where
  pub some : 0 < bits
  pub count : length digits ≡ bits
  pub word : List ℕ
  pub whole : text ≡ digits ++ 32 ∷ word
  pub number : number_in word ≡ Some source

-- ---- names
-- a wire has a name at the place of these coordinates
abbrev pub name_comes : Reading → ℕ → ℕ → ℕ × ℕ → List ℕ → Result Reading ChipFault
name_comes r line wire at name =
    tile_in line r.parts at.0 at.1 >>= (λ tile. Ok (record r { parts = record r.parts { names = r.parts.names ++ record { wire = wire; tile = tile; name = name; line = line } ∷ [] } }))

-- the text begins with the digits of a number and a space
pub record IsAhead (text : List ℕ) (n : ℕ) (rest : List ℕ) : Type 0 where
  pub word : List ℕ
  pub whole : text ≡ word ++ 32 ∷ rest
  pub number : number_in word ≡ Some n

-- a byte is a blank, a line feed or another one that is no sign
abbrev pub has_blank : List ℕ → Bool
has_blank [] = false
has_blank (b ∷ bytes) = if nat_lt b 33 then true else has_blank bytes

-- one word, which begins no comment: 35 is `#`
pub record IsPlainName (name : List ℕ) : Type 0 where
  pub word : IsWord name
  pub no_comment : begins_with 35 name ≡ false

-- the line is two numbers and a name
pub record IsCutName (text : List ℕ) (at : ℕ × ℕ) (name : List ℕ) : Type 0 where
  pub behind : List ℕ
  pub x : IsAhead text at.0 behind
  pub y : IsAhead behind at.1 name
  pub last : IsPlainName name

-- ---- headings
-- the section of the names of the wire of a number begins
abbrev pub net_comes : Reading → ℕ → ℕ → Result Reading ChipFault
net_comes r line wire = wire_in line r.parts wire >>= (λ wire. unseen line (lookup (nat_eq wire) r.nets) >>= (λ u. Ok (with_net r line wire)))

-- a group of these bits begins
abbrev pub group_stands : Reading → ℕ → ℕ × ℕ × ℕ → List BitAt → Result Reading ChipFault
group_stands r line numbers bits =
    tile_in line r.parts numbers.0 numbers.1 >>= (λ tile. wire_in line r.parts numbers.2 >>= (λ wire. Ok (with_group r line tile wire bits)))

-- the line is `.net` and the number of a wire
pub record IsCutNet (text : List ℕ) (wire : ℕ) : Type 0 where
  pub word : List ℕ
  pub whole : text ≡ codes ".net" ++ 32 ∷ word
  pub number : number_in word ≡ Some wire

-- three numbers, and what is behind them
pub record AreAhead (text : List ℕ) (numbers : ℕ × ℕ × ℕ) (bits : List ℕ) : Type 0 where
  pub first : List ℕ
  pub second : List ℕ
  pub x : IsAhead text numbers.0 first
  pub y : IsAhead first numbers.1 second
  pub wire : IsAhead second numbers.2 bits

-- the line is `.buffer` or `.routing`, three numbers, and what is behind them
pub record IsCutGroup (text : List ℕ) (numbers : ℕ × ℕ × ℕ) (bits : List ℕ) : Type 0 where
  pub behind : List ℕ
  pub whole : (text ≡ codes ".buffer" ++ 32 ∷ behind) ⊎ (text ≡ codes ".routing" ++ 32 ∷ behind)
  pub ahead : AreAhead behind numbers bits
