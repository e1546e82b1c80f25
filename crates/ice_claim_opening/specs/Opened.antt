-- What an opening leaves of all nets.
use Rattle.std.specs.Prelude.{◌≡◌, ◌≢◌, ℕ, ◌<◌, List, Some, length, slice_get}
use Rattle.ice_base.specs.declared.number.WireNo.{WireNo}
use Rattle.ice_base_values.specs.Order.{Has}
use Rattle.ice_graph.specs.declared.tree.Tree.{Tree}
use Rattle.ice_graph.specs.Network.{Network}
use Rattle.ice_core.specs.declared.net.Net.{Net}
use Rattle.ice_negotiate_defs.specs.Trees.{AreReached, IsCause, IsTree, route_of}
use Rattle.ice_negotiate_defs.specs.declared.stop.TreeStop.TheVariants.{Unreachable}
use Rattle.ice_negotiate_defs.specs.Fitting.{AreApart}
use Rattle.ice_negotiate_defs.specs.declared.kept.Kept.{Kept}
use Rattle.ice_negotiate_defs.specs.declared.kept.Kept.TheVariants.{Whole, Lost, Cut}

-- the net reaches all its sinks, and this is its tree where every wire costs 1
pub record IsAtOne (graph : Network) (net : Net) (tree : Tree) : Type 0 where
  pub joined : IsTree graph.edges (λ w. 1) net.root net.sinks.items (route_of tree)
  pub reached : AreReached graph.edges net.root net.sinks.items

-- the tree of another net than the one of number n has the wire too
pub record IsInAnother (graph : Network) (nets : List Net) (n : ℕ) (wire : WireNo) : Type 0 where
  pub number : ℕ
  pub other : number ≢ n
  pub net : Net
  pub at : slice_get nets number ≡ Some net
  pub tree : Tree
  pub is : IsAtOne graph net tree
  pub has : Has tree.wires.items wire

-- a net that isn't kept lost a wire of its tree, which another net's tree has too
pub record IsLost (graph : Network) (nets : List Net) (n : ℕ) (net : Net) (wire : WireNo) : Type 0 where
  pub tree : Tree
  pub is : IsAtOne graph net tree
  pub has : Has tree.wires.items wire
  pub elsewhere : IsInAnother graph nets n wire

-- what is left of the net of number n
abbrev pub IsKept : Network → List Net → ℕ → Net → Kept → Type 0
IsKept graph nets n net (Whole tree) = IsAtOne graph net tree
IsKept graph nets n net (Lost wire) = IsLost graph nets n net wire
IsKept graph nets n net (Cut wire) = IsCause graph.edges net.root net.sinks.items (Unreachable wire)

-- no kept tree of a net before the one of number n has a wire of this tree
abbrev pub IsFreeBefore : List Kept → ℕ → Tree → Type 0
IsFreeBefore kept n tree = (m : ℕ) (other : Tree) (wire : WireNo) → m < n → slice_get kept m ≡ Some (Whole other) → Has other.wires.items wire → Has tree.wires.items wire → ⊥

-- in the order of the nets each is kept of whose tree no wire is in an earlier kept one
abbrev pub AreKeptInTurn : Network → List Net → List Kept → Type 0
AreKeptInTurn graph nets kept = (n : ℕ) (net : Net) (tree : Tree) → slice_get nets n ≡ Some net → IsAtOne graph net tree → IsFreeBefore kept n tree → (its : Tree) × (slice_get kept n ≡ Some (Whole its))

-- what is left of all nets; with one worker the nets are kept in turn
pub record IsOpened (graph : Network) (nets : List Net) (workers : ℕ) (kept : List Kept) : Type 0 where
  pub long : length kept ≡ length nets
  pub each : (n : ℕ) (net : Net) (one : Kept) → slice_get nets n ≡ Some net → slice_get kept n ≡ Some one → IsKept graph nets n net one
  pub apart : AreApart kept
  pub exact : workers ≡ 1 → AreKeptInTurn graph nets kept
