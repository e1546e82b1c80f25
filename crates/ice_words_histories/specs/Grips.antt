-- Hands and words as contracts see them.
use Rattle.std.specs.Prelude.{◌≡◌, ℕ, List}
use Rattle.atomic_table.specs.Seated.{TableId}
use Rattle.ice_words_histories.specs.declared.view.HistoryView.{HistoryView}

-- a hand: whose words it is for, and what it knows
pub record Grip : Type 0 where
  pub table : TableId
  pub view : HistoryView

-- the words: which they are, and the histories that they began with
pub record Board : Type 0 where
  pub table : TableId
  pub histories : List ℕ

-- the hand is one of these words
pub record IsHandOf (board : Board) (grip : Grip) : Type 0 where
  pub table : grip.table ≡ board.table
  pub histories : grip.view.histories ≡ board.histories

abbrev pub grip_of : TableId → HistoryView → Grip
grip_of table view = record { table = table; view = view }

abbrev pub board_of : TableId → List ℕ → Board
board_of table histories = record { table = table; histories = histories }
