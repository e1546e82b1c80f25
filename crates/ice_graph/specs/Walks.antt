-- Walks in a graph.
use Rattle.std.specs.Prelude.{◌≡◌, ℕ, List, [], ◌∷◌, Some, slice_get}
use Rattle.ice_base.specs.declared.number.WireNo.{WireNo}
use Rattle.ice_graph.specs.declared.edge.Edge.{Edge}

-- the edge stands in the graph
abbrev pub HasEdge : List Edge → Edge → Type 0
HasEdge edges e = (k : ℕ) × (slice_get edges k ≡ Some e)

-- a walk of edges of the graph from the wire a to the wire b: each edge enters the wire that the next one leaves
abbrev pub IsWalk : List Edge → ℕ → List Edge → ℕ → Type 0
IsWalk edges a [] b = a ≡ b
IsWalk edges a (e ∷ walk) b = HasEdge edges e × (e.from.0 ≡ a) × IsWalk edges e.to.0 walk b

-- the wire is one of the targets
abbrev pub IsTarget : List WireNo → ℕ → Type 0
IsTarget targets w = (k : ℕ) × (t : WireNo) × (slice_get targets k ≡ Some t) × (t.0 ≡ w)
