-- Hands that raise histories, block by block.
use Rattle.std.specs.Prelude.{◌≡◌, ℕ, ◌+◌, ◌≤◌, List, [], ◌∷◌, length}
use Rattle.std.specs.List.{sum_by, AllByRecursion}
use Rattle.ice_words_histories.specs.declared.view.HistoryPart.{HistoryPart}
use Rattle.ice_words_histories.specs.declared.view.HistoryView.{HistoryView}
use Rattle.ice_words_histories.specs.Blocks.{ends_of, no_part}
use Rattle.ice_words_histories.specs.Grips.{Board, Grip, IsHandOf}
use Rattle.ice_worker_raise.specs.Closing.{HasRaised}
use Rattle.ice_worker_raise.specs.Raised.{raised_part}

-- the main view after so many splits, with so many hands out, and these parts behind its own
abbrev pub history_main : List ℕ → ℕ → ℕ → List HistoryPart → HistoryView
history_main histories splits out parts = record { histories = histories; main = 1; worker = 0; out = out; splits = splits; parts = no_part ∷ parts }

-- the view of a worker with this part
abbrev pub history_worker : List ℕ → HistoryPart → HistoryView
history_worker histories part = record { histories = histories; main = 0; worker = 1; out = 0; splits = 0; parts = part ∷ [] }

-- a hand that has done nothing
pub record IsIdle (board : Board) (hand : Grip) : Type 0 where
  pub of : IsHandOf board hand
  pub view : hand.view ≡ history_worker board.histories no_part

-- a hand that raised its blocks by the counts until it was answered None
pub record HasFinished (board : Board) (counts : List ℕ) (hand : Grip) : Type 0 where
  pub of : IsHandOf board hand
  pub blocks : List ℕ
  pub view : hand.view ≡ history_worker board.histories (raised_part counts (length board.histories) blocks)

-- this many hands that raised their blocks are joined to the main one, and so many are out
pub record AreJoined (histories counts : List ℕ) (splits out joined : ℕ) (view : HistoryView) : Type 0 where
  pub parts : List HistoryPart
  pub is : view ≡ history_main histories splits out parts
  pub raised : AllByRecursion (HasRaised counts (length histories)) parts
  pub ended : joined ≤ sum_by ends_of parts
