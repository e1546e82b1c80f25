-- Routes of nets: a route that leads from its root to sinks has no branch that ends elsewhere.
use Rattle.std.specs.Prelude.{◌≡◌, ℕ, ◌+◌, ◌≤◌, ◌⊎◌, List, [], ◌∷◌, Some, length, slice_get}
use Rattle.ice_base.specs.declared.number.WireNo.{WireNo}
use Rattle.ice_base.specs.declared.number.RowNo.{RowNo}
use Rattle.ice_base_values.specs.Order.{At, Has}
use Rattle.ice_graph.specs.declared.edge.Edge.{Edge}
use Rattle.ice_graph.specs.declared.tree.Tree.{Tree}
use Rattle.ice_graph.specs.Walks.{HasEdge}

-- the route of a net: its wires and its rows in the order of addition
pub record Route : Type 0 where
  pub wires : List WireNo
  pub rows : List RowNo

abbrev pub route_of : Tree → Route
route_of tree = record { wires = tree.wires.items; rows = tree.rows.items }

-- no wire stands twice in the list
abbrev pub AreOnce : List WireNo → Type 0
AreOnce wires = (j k : ℕ) (v : WireNo) → slice_get wires j ≡ Some v → slice_get wires k ≡ Some v → j ≡ k

-- the root first, and each row enters the next wire, out of an earlier one
pub record Grows (edges : List Edge) (root : WireNo) (route : Route) : Type 0 where
  pub starts : At route.wires 0 root
  pub long : length route.wires ≡ length route.rows + 1
  pub grows : (i : ℕ) (row : RowNo) (w : WireNo) → At route.rows i row → At route.wires (i + 1) w
      → (e : Edge) × HasEdge edges e × (e.row ≡ row) × (e.to ≡ w) × ((j : ℕ) × (j ≤ i) × At route.wires j e.from)

-- a row of the route leaves the wire
abbrev pub IsLeft : List Edge → Route → WireNo → Type 0
IsLeft edges route w = (e : Edge) × HasEdge edges e × Has route.rows e.row × (e.from ≡ w)

-- one end for each sink, in order: a target of the sink that the route holds
abbrev pub AreEnds : List (List WireNo) → List WireNo → List WireNo → Type 0
AreEnds [] [] wires = Unit {0}
AreEnds [] (t ∷ ends) wires = ⊥
AreEnds (targets ∷ sinks) [] wires = ⊥
AreEnds (targets ∷ sinks) (t ∷ ends) wires = Has targets t × Has wires t × AreEnds sinks ends wires

-- the route leads from the root to the sinks: it grows from the root and enters no wire twice, it holds one end of each sink, and each wire that no row leaves is the root or one of these ends
pub record Leads (edges : List Edge) (root : WireNo) (sinks : List (List WireNo)) (route : Route) : Type 0 where
  pub growing : Grows edges root route
  pub once : AreOnce route.wires
  pub ends : List WireNo
  pub are_ends : AreEnds sinks ends route.wires
  pub leaves : (w : WireNo) → Has route.wires w → (w ≡ root) ⊎ (Has ends w ⊎ IsLeft edges route w)
