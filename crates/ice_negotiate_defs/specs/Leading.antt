-- Trees of nets lead from their roots to their sinks.
use Rattle.std.specs.Prelude.{◌≡◌, ℕ, ◌≤◌, List, Option, None, Some, slice_get}
use Rattle.ice_base.specs.declared.number.WireNo.{WireNo}
use Rattle.ice_graph.specs.declared.edge.Edge.{Edge}
use Rattle.ice_graph.specs.declared.tree.Tree.{Tree}
use Rattle.ice_graph.specs.Network.{Network}
use Rattle.ice_core.specs.declared.net.Net.{Net}
use Rattle.ice_graph.specs.Leading.{Leads, Route, route_of}
pub use Rattle.ice_graph.specs.Leading.{AreEnds, Grows, IsLeft, Leads}
use Rattle.ice_negotiate_defs.specs.Trees.{IsTree}
use Rattle.ice_negotiate_defs.specs.Rounds.{Past, AreRoundsFrom}

-- where no price is 0, the tree of a net leads from its root to its sinks
abbrev pub TreesLead : Type 0
TreesLead = (edges : List Edge) (price : ℕ → ℕ) (root : WireNo) (sinks : List (List WireNo)) (route : Route) → ((v : ℕ) → 1 ≤ price v) → IsTree edges price root sinks route → Leads edges root sinks route

-- the trees that nets keep lead from their roots to their sinks
abbrev pub OpeningLeads : Network → List Net → Option (List (Option Tree)) → Type 0
OpeningLeads graph nets None = Unit {0}
OpeningLeads graph nets (Some kept) = (n : ℕ) (net : Net) (tree : Tree) → slice_get nets n ≡ Some net → slice_get kept n ≡ Some (Some tree) → Leads graph.edges net.root net.sinks.items (route_of tree)

-- where those of the opening do, each tree of every round leads from the root of its net to the net's sinks
abbrev pub RoundsLead : Type 0
RoundsLead = (graph : Network) (nets : List Net) (opening : Option (List (Option Tree))) (rounds : List Past) → OpeningLeads graph nets opening → AreRoundsFrom graph nets opening rounds → (k n : ℕ) (one : Past) (net : Net) (tree : Tree)
    → slice_get rounds k ≡ Some one → slice_get nets n ≡ Some net → slice_get one.trees n ≡ Some tree → Leads graph.edges net.root net.sinks.items (route_of tree)
