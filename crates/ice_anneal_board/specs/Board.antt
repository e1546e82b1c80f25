-- A placement with its wire length.
use Rattle.std.specs.Prelude.{◌≡◌, ℕ, ◌<◌, ◌≤◌, Bool, true, false, List, length, ◌⊎◌, slice_index, slice_index_or}
use Rattle.std.specs.List.{All, sum, swap}
use Rattle.std.specs.List.Sorted.{IsPermutation}
use Rattle.ice_base.specs.declared.number.TileAt.{TileAt}
use Rattle.ice_anneal_board.specs.declared.net.NetNodes.{NetNodes}
use Rattle.ice_anneal_board.specs.Length.{net_length, wire_length, origin}
use Rattle.ice_anneal_board.specs.declared.wiring.Wiring.{Wiring}
use Rattle.ice_anneal_board.specs.declared.board.Board.{Board}
use Rattle.ice_anneal_board.specs.Wiring.{At}

-- the lengths are those of the nets, and the total is their sum
pub record IsBoard (w : Wiring) (b : Board) : Type 0 where
  pub counts : length b.lengths.items ≡ length w.nets.items
  pub bound : All (λ n. n ≤ 131070) b.lengths.items
  pub total : b.total ≡ sum b.lengths.items
  pub right : (k : ℕ) (net : NetNodes) → At w.nets.items k net → slice_index b.lengths.items k ≡ net_length b.place.items net.nodes.items

-- whether the cluster may be exchanged; free sites may
abbrev pub IsFree : List Bool → ℕ → Type 0
IsFree free c = slice_index_or free c false ≡ true

-- the same tiles in another order, and each that may not move as it was
pub record Keeps (free : List Bool) (old new : List TileAt) : Type 0 where
  pub moved : IsPermutation old new
  pub rigid : (c : ℕ) → slice_index_or free c false ≡ false → slice_index_or new c origin ≡ slice_index_or old c origin

-- no exchange of c with what stands behind it and before `last` lowers the wire length
abbrev pub IsLeastFrom : List NetNodes → List Bool → List TileAt → ℕ → ℕ → Type 0
IsLeastFrom nets free place c last = (d : ℕ) → c < d → d < last → IsFree free c → IsFree free d → wire_length nets place ≤ wire_length nets (swap place c d)

-- no exchange of one of the first `count` lowers the wire length
abbrev pub IsLeast : List NetNodes → List Bool → List TileAt → ℕ → Type 0
IsLeast nets free place count = (c : ℕ) → c < count → IsLeastFrom nets free place c (length free)

-- an exchange that was made because it lowers the wire length, or was not made because it doesn't
abbrev pub Attempted : List NetNodes → Board → Board → ℕ → ℕ → Type 0
Attempted nets old new c d =
    ((new.place.items ≡ swap old.place.items c d) × (new.total < old.total))
    ⊎ ((new.place.items ≡ old.place.items) × (new.total ≡ old.total) × (wire_length nets old.place.items ≤ wire_length nets (swap old.place.items c d)))

-- exchanges that lower the wire length; where there was none, no exchange of c with what stands before `last` lowers it
pub record LoweredFrom (nets : List NetNodes) (free : List Bool) (old new : Board) (c last : ℕ) : Type 0 where
  pub keeps : Keeps free old.place.items new.place.items
  pub falls : new.total ≤ old.total
  pub least : new.total ≡ old.total → (new.place.items ≡ old.place.items) × IsLeastFrom nets free new.place.items c last

-- the same for all exchanges of one of the first `count`
pub record Lowered (nets : List NetNodes) (free : List Bool) (old new : Board) (count : ℕ) : Type 0 where
  pub keeps : Keeps free old.place.items new.place.items
  pub falls : new.total ≤ old.total
  pub least : new.total ≡ old.total → (new.place.items ≡ old.place.items) × IsLeast nets free new.place.items count
