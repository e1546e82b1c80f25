-- Passes and the table as contracts see them.
use Rattle.std.specs.Prelude.{◌≡◌, ℕ, List}
use Rattle.atomic_table.specs.Seated.{TableId}
use Rattle.ice_core.specs.Routes.{lists_of}
use Rattle.ice_claim.specs.declared.view.ClaimLists.{ClaimLists}
use Rattle.ice_claim.specs.declared.view.ClaimView.{ClaimView}

-- a pass: whose table it is for, and what it knows
pub record Grip : Type 0 where
  pub table : TableId
  pub view : ClaimView

-- the table: which it is, how many wires there are, and the wires of each net
pub record Board : Type 0 where
  pub table : TableId
  pub wires : ℕ
  pub lists : List (List ℕ)

-- the pass is one of this table
pub record IsPassOf (board : Board) (grip : Grip) : Type 0 where
  pub table : grip.table ≡ board.table
  pub lists : grip.view.lists ≡ board.lists

abbrev pub grip_of : TableId → ClaimView → Grip
grip_of table view = record { table = table; view = view }

abbrev pub board_of : TableId → ℕ → List (List ℕ) → Board
board_of table wires lists = record { table = table; wires = wires; lists = lists }

-- the wires of each net
abbrev pub nets_of : ClaimLists → List (List ℕ)
nets_of key = lists_of key.of_nets.items
