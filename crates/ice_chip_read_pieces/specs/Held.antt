-- What a reader holds of a text.
use Rattle.std.specs.Prelude.{◌≡◌, ℕ, Option, Some, None, List, [], ◌∷◌, ◌++◌, Result, Ok, Err}
use Rattle.ice_chip.specs.declared.fault.ChipFault.{ChipFault}
use Rattle.ice_chip_read.specs.Reading.{Reading}
use Rattle.ice_chip_read.specs.Views.{Stops, reading_view}
use Rattle.ice_chip_read.specs.declared.fault.ChipStop.{ChipStop}
use Rattle.ice_base.specs.Lines.{IsLine}
use Rattle.ice_chip_read_pieces.specs.SoFar.{so_far, words_at}
use Rattle.ice_chip_read_pieces.specs.declared.said.Said.{Said}
use Rattle.ice_chip_read_pieces.specs.declared.said.Said.TheVariants.{Nothing, Rows, Stopped}

-- what the ended lines say, or why reading stopped; the number of the line behind them; and the bytes that are held of that line
pub record Held : Type 0 where
  pub said : Result (Option Reading) ChipStop
  pub number : ℕ
  pub rest : List ℕ

abbrev pub said_view : Said → Result (Option Reading) ChipStop
said_view Nothing = Ok None
said_view (Rows r) = Ok (Some (reading_view r))
said_view (Stopped stop) = Err stop

-- this is what lines say so far, unless memory ran out
abbrev pub HasSaid : Result (Option Reading) ChipStop → Result (Option Reading) ChipFault → Type 0
HasSaid (Ok rows) said = said ≡ Ok rows
HasSaid (Err stop) said = Stops stop said

-- this is what some lines say so far, unless memory ran out
abbrev pub IsMade : Result (Option Reading) ChipStop → Type 0
IsMade said = (ls : List (ℕ × List (List ℕ))) × HasSaid said (so_far ls)

-- the bytes that are held of a line that isn't ended: all of them, and none behind a stop
abbrev pub HoldsRest : Result (Option Reading) ChipStop → List ℕ → List ℕ → Type 0
HoldsRest (Ok rows) rest held = held ≡ rest
HoldsRest (Err stop) rest held = held ≡ []

-- the line at the front of a text was taken, and this is what is behind its line feed
pub record IsLineTaken (old new : Result (Option Reading) ChipStop) (number : ℕ) (text rest : List ℕ) : Type 0 where
  pub line : List ℕ
  pub whole : text ≡ line ++ 10 ∷ rest
  pub ends : IsLine line
  pub said : (ls : List (ℕ × List (List ℕ))) → HasSaid old (so_far ls) → HasSaid new (so_far (ls ++ words_at number line))
  pub stopped : (stop : ChipStop) → old ≡ Err stop → new ≡ Err stop
