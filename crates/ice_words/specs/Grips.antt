-- Hands and words as contracts see them.
use Rattle.std.specs.Prelude.{◌≡◌, ℕ, List}
use Rattle.atomic_table.specs.Seated.{TableId}
use Rattle.ice_core.specs.Routes.{lists_of}
use Rattle.ice_words.specs.declared.view.View.{View}
use Rattle.ice_words.specs.declared.view.Opening.{Opening}

-- a hand: whose words it is for, and what it knows
pub record Grip : Type 0 where
  pub table : TableId
  pub view : View

-- the words: which they are, and the tasks and counts that they began with
pub record Board : Type 0 where
  pub table : TableId
  pub olds : List (List ℕ)
  pub counts : List ℕ

-- the hand is one of these words
pub record IsHandOf (board : Board) (grip : Grip) : Type 0 where
  pub table : grip.table ≡ board.table
  pub olds : grip.view.olds ≡ board.olds
  pub counts : grip.view.counts ≡ board.counts

abbrev pub grip_of : TableId → View → Grip
grip_of table view = record { table = table; view = view }

abbrev pub board_of : TableId → List (List ℕ) → List ℕ → Board
board_of table olds counts = record { table = table; olds = olds; counts = counts }

-- the old wires of each task
abbrev pub olds_of : Opening → List (List ℕ)
olds_of opening = lists_of opening.olds.items

-- the counts at the close, and what was done until then
pub record Shut : Type 0 where
  pub opened : List ℕ
  pub closed : List ℕ
  pub up : ℕ
  pub down : ℕ
  pub claims : ℕ
  pub releases : ℕ
  pub holds : ℕ

abbrev pub shut_of : List ℕ → List ℕ → ℕ → ℕ → ℕ → ℕ → ℕ → Shut
shut_of opened closed up down claims releases holds = record { opened = opened; closed = closed; up = up; down = down; claims = claims; releases = releases; holds = holds }
