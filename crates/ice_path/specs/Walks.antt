-- Walks in a graph, and what they cost. A price is given for each wire.
use Rattle.std.specs.Prelude.{◌≡◌, ℕ, ◌+◌, ◌≤◌, List, [], ◌∷◌, Some, slice_get}
use Rattle.ice_base.specs.declared.number.WireNo.{WireNo}
use Rattle.ice_graph.specs.declared.edge.Edge.{Edge}
use Rattle.ice_graph.specs.Walks.{HasEdge, IsTarget, IsWalk}
pub use Rattle.ice_graph.specs.Walks.{HasEdge, IsTarget, IsWalk}

-- the sum of the prices of the wires that the walk enters
abbrev pub cost : (ℕ → ℕ) → List Edge → ℕ
cost price [] = 0
cost price (e ∷ walk) = price e.to.0 + cost price walk

-- the wire is one of the tree
abbrev pub InTree : List WireNo → ℕ → Type 0
InTree tree w = (k : ℕ) × (v : WireNo) × (slice_get tree k ≡ Some v) × (v.0 ≡ w)

-- a walk from the tree to the wire costs this
abbrev pub HasWalk : List Edge → (ℕ → ℕ) → List WireNo → ℕ → ℕ → Type 0
HasWalk edges price tree w c = (start : ℕ) × (walk : List Edge) × InTree tree start × IsWalk edges start walk w × (cost price walk ≡ c)

-- each walk from the tree to the wire costs at least as much
abbrev pub IsLeast : List Edge → (ℕ → ℕ) → List WireNo → ℕ → ℕ → Type 0
IsLeast edges price tree w c = (start : ℕ) (walk : List Edge) → InTree tree start → IsWalk edges start walk w → c ≤ cost price walk

-- the label of a wire: the least cost of a walk from the tree to it
abbrev pub IsLabel : List Edge → (ℕ → ℕ) → List WireNo → ℕ → ℕ → Type 0
IsLabel edges price tree w c = HasWalk edges price tree w c × IsLeast edges price tree w c

-- no walk leads from the tree to the wire
abbrev pub NoWalk : List Edge → List WireNo → ℕ → Type 0
NoWalk edges tree w = (start : ℕ) (walk : List Edge) → InTree tree start → IsWalk edges start walk w → ⊥

-- the cost of a sink with these targets: the least cost of a walk from the tree to any of them
abbrev pub IsCostTo : List Edge → (ℕ → ℕ) → List WireNo → List WireNo → ℕ → Type 0
IsCostTo edges price tree targets c = ((w : ℕ) × IsTarget targets w × HasWalk edges price tree w c) × ((w : ℕ) → IsTarget targets w → IsLeast edges price tree w c)

-- no walk leads from the tree to any of the targets
abbrev pub NoWalkTo : List Edge → List WireNo → List WireNo → Type 0
NoWalkTo edges tree targets = (w : ℕ) → IsTarget targets w → NoWalk edges tree w

-- the bound falls along each edge by no more than the price of the wire that the edge enters
abbrev pub FallsBy : List Edge → (ℕ → ℕ) → (ℕ → ℕ) → Type 0
FallsBy edges price bound = (e : Edge) → HasEdge edges e → bound e.from.0 ≤ price e.to.0 + bound e.to.0

-- each wire whose label and bound make at most c, once, and no other
pub record AreSettled (edges : List Edge) (price : ℕ → ℕ) (tree : List WireNo) (bound : ℕ → ℕ) (c : ℕ) (wires : List WireNo) : Type 0 where
  pub once : (j k : ℕ) (v : WireNo) → slice_get wires j ≡ Some v → slice_get wires k ≡ Some v → j ≡ k
  pub each : (k : ℕ) (v : WireNo) → slice_get wires k ≡ Some v → (l : ℕ) × IsLabel edges price tree v.0 l × (l + bound v.0 ≤ c)
  pub all : (w l : ℕ) → IsLabel edges price tree w l → l + bound w ≤ c → InTree wires w
