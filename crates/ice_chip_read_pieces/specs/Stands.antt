-- The texts for which a reader stands.
use Rattle.std.specs.Prelude.{◌≡◌, ℕ, Option, List, [], ◌∷◌, ◌++◌, length, Result, Ok, Err}
use Rattle.ice_chip.specs.declared.fault.ChipFault.{ChipFault}
use Rattle.ice_desk_pieces.specs.Taken.{TakesMore}
use Rattle.ice_chip_read.specs.Reading.{Reading}
use Rattle.ice_chip_read.specs.declared.fault.ChipStop.TheVariants.{NoMemory}
use Rattle.ice_chip_read_pieces.specs.Cut.{IsCut, number_behind}
use Rattle.ice_chip_read_pieces.specs.Held.{Held, HasSaid, HoldsRest}
use Rattle.ice_chip_read_pieces.specs.SoFar.{lines_so_far}

-- memory ran out
abbrev pub IsSpent : Held → Type 0
IsSpent held = held.said ≡ Err NoMemory

-- what is held of this text, unless memory ran out
pub record Follows (held : Held) (text : List ℕ) : Type 0 where
  pub ended : List (List ℕ)
  pub rest : List ℕ
  pub cut : IsCut text ended rest
  pub lines : HasSaid held.said (lines_so_far ended)
  pub next : held.number ≡ number_behind 1 ended
  pub bytes : HoldsRest held.said rest held.rest

-- a reader that holds this was given this text, and no more
abbrev pub StandsFor : Held → List ℕ → Type 0
StandsFor held text = Follows held text × (IsSpent held → ⊥)

-- how many bytes are kept behind lines that say this: all, or none after a fault
abbrev pub kept_behind : Result (Option Reading) ChipFault → ℕ → ℕ
kept_behind (Ok said) count = count
kept_behind (Err fault) count = 0

-- a reader of this text keeps so many bytes: those behind its last line feed, and none after a fault of a line that is ended
pub record IsKept (text : List ℕ) (count : ℕ) : Type 0 where
  pub ended : List (List ℕ)
  pub rest : List ℕ
  pub cut : IsCut text ended rest
  pub bytes : count ≡ kept_behind (lines_so_far ended) (length rest)

-- a reader took the line at the front of a text, and this is what is behind its line feed
pub record IsStep (old new : Held) (text rest : List ℕ) : Type 0 where
  pub line : List ℕ
  pub whole : text ≡ line ++ 10 ∷ rest
  pub more : TakesMore (Follows old) (Follows new) (line ++ 10 ∷ [])
