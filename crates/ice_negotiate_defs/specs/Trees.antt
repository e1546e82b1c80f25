-- Trees of nets: the sinks joined to the root one by one.
use Rattle.std.specs.Prelude.{◌≡◌, ℕ, ◌<◌, ◌++◌, length, List, [], ◌∷◌, Some, map, slice_get}
use Rattle.ice_base.specs.declared.number.WireNo.{WireNo}
use Rattle.ice_graph.specs.declared.edge.Edge.{Edge}
use Rattle.ice_graph.specs.Network.{Network}
use Rattle.ice_graph.specs.Leading.{Route}
pub use Rattle.ice_graph.specs.Leading.{AreOnce, Route, route_of}
use Rattle.ice_path.specs.Walks.{InTree, IsWalk}
use Rattle.ice_path.specs.Paths.{IsTakenTo}
use Rattle.ice_path.specs.Room.{AreWires}
use Rattle.ice_negotiate_defs.specs.declared.stop.TreeStop.{TreeStop}
use Rattle.ice_negotiate_defs.specs.declared.stop.TreeStop.TheVariants.{Unreachable, NoMemory}

-- the route that holds the root alone
abbrev pub bare : WireNo → Route
bare root = record { wires = root ∷ []; rows = [] }

-- the route with a path: each edge adds the wire that it enters, and its row
abbrev pub extended : Route → List Edge → Route
extended route path = record { wires = route.wires ++ map (λ (e : Edge). e.to) path; rows = route.rows ++ map (λ (e : Edge). e.row) path }

-- the sink with these targets is joined to the route by the taken path
abbrev pub IsJoined : List Edge → (ℕ → ℕ) → Route → List WireNo → Route → Type 0
IsJoined edges price route targets next = (path : List Edge) × IsTakenTo edges price route.wires targets path × (next ≡ extended route path)

-- the sinks are joined to the route one by one in order
abbrev pub AreJoined : List Edge → (ℕ → ℕ) → Route → List (List WireNo) → Route → Type 0
AreJoined edges price route [] whole = route ≡ whole
AreJoined edges price route (targets ∷ sinks) whole = (next : Route) × IsJoined edges price route targets next × AreJoined edges price next sinks whole

-- the tree of a net with this root and these sinks
abbrev pub IsTree : List Edge → (ℕ → ℕ) → WireNo → List (List WireNo) → Route → Type 0
IsTree edges price root sinks route = AreJoined edges price (bare root) sinks route

-- each sink has a target, and its targets are below n
abbrev pub AreSinks : ℕ → List (List WireNo) → Type 0
AreSinks n sinks = (k : ℕ) (targets : List WireNo) → slice_get sinks k ≡ Some targets → (0 < length targets) × AreWires n targets

-- a walk leads from the root to the wire
abbrev pub IsReached : List Edge → WireNo → WireNo → Type 0
IsReached edges root wire = (walk : List Edge) × IsWalk edges root.0 walk wire.0

-- a walk leads from the root to one of the targets
abbrev pub IsSinkReached : List Edge → WireNo → List WireNo → Type 0
IsSinkReached edges root targets = (k : ℕ) × (t : WireNo) × (slice_get targets k ≡ Some t) × IsReached edges root t

-- walks lead from the root to all of these sinks, to one target of each
abbrev pub AreReached : List Edge → WireNo → List (List WireNo) → Type 0
AreReached edges root sinks = (k : ℕ) (targets : List WireNo) → slice_get sinks k ≡ Some targets → IsSinkReached edges root targets

-- wires of the graph, the root among them, to which walks lead from the root
pub record IsRooted (graph : Network) (root : WireNo) (wires : List WireNo) : Type 0 where
  pub within : AreWires graph.wires wires
  pub root_in : InTree wires root.0
  pub reached : (k : ℕ) (v : WireNo) → slice_get wires k ≡ Some v → IsReached graph.edges root v

-- why the sink is not joined: no walk leads to any of its targets, of which the first is told
abbrev pub StopsAt : List Edge → WireNo → List WireNo → TreeStop → Type 0
StopsAt edges root targets (Unreachable wire) = (slice_get targets 0 ≡ Some wire) × (IsSinkReached edges root targets → ⊥)
StopsAt edges root targets NoMemory = Unit {0}

-- why a net gets no tree: its first sink to none of whose targets a walk leads, of which the first target is told
abbrev pub IsCause : List Edge → WireNo → List (List WireNo) → TreeStop → Type 0
IsCause edges root sinks (Unreachable wire) = (k : ℕ) × (targets : List WireNo) × (slice_get sinks k ≡ Some targets) × (slice_get targets 0 ≡ Some wire) × (IsSinkReached edges root targets → ⊥)
    × ((j : ℕ) (earlier : List WireNo) → j < k → slice_get sinks j ≡ Some earlier → IsSinkReached edges root earlier)
IsCause edges root sinks NoMemory = Unit {0}

-- a net has no two trees in the same prices
abbrev pub TreesAreUnique : Type 0
TreesAreUnique = (edges : List Edge) (price : ℕ → ℕ) (root : WireNo) (sinks : List (List WireNo)) (one other : Route)
    → IsTree edges price root sinks one → IsTree edges price root sinks other → one ≡ other
