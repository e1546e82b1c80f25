-- What an opening is to be, for rounds to begin from it.
use Rattle.std.specs.Prelude.{◌≡◌, ℕ, Bool, true, false, List, Option, None, Some, length, map, slice_get}
use Rattle.ice_base.specs.declared.number.WireNo.{WireNo}
use Rattle.ice_base_values.specs.Order.{Has}
use Rattle.ice_graph.specs.declared.tree.Tree.{Tree}
use Rattle.ice_graph.specs.Network.{Network}
use Rattle.ice_graph.specs.Leading.{Leads, route_of}
use Rattle.ice_core.specs.declared.net.Net.{Net}
use Rattle.ice_negotiate_defs.specs.declared.kept.Kept.{Kept}
use Rattle.ice_negotiate_defs.specs.declared.kept.Kept.TheVariants.{Whole, Lost, Cut}

-- whether a net keeps a tree, and which
abbrev pub is_whole : Kept → Bool
is_whole (Whole tree) = true
is_whole (Lost wire) = false
is_whole (Cut wire) = false

abbrev pub whole : Kept → Option Tree
whole (Whole tree) = Some tree
whole (Lost wire) = None
whole (Cut wire) = None

abbrev pub wholes : List Kept → List (Option Tree)
wholes kept = map whole kept

-- no wire is in two kept trees
abbrev pub AreApart : List Kept → Type 0
AreApart kept = (i j : ℕ) (one other : Tree) (wire : WireNo) → slice_get kept i ≡ Some (Whole one) → slice_get kept j ≡ Some (Whole other) → Has one.wires.items wire → Has other.wires.items wire → i ≡ j

-- the kept trees lead from the roots of their nets to their sinks, and share no wire
pub record Fits (graph : Network) (nets : List Net) (kept : List Kept) : Type 0 where
  pub long : length kept ≡ length nets
  pub lead : (n : ℕ) (net : Net) (tree : Tree) → slice_get nets n ≡ Some net → slice_get kept n ≡ Some (Whole tree) → Leads graph.edges net.root net.sinks.items (route_of tree)
  pub apart : AreApart kept

-- the opening of rounds: none, or the trees that nets keep
abbrev pub opening_of : Option (List Kept) → Option (List (Option Tree))
opening_of None = None
opening_of (Some kept) = Some (wholes kept)

-- an opening fits, where there is one
abbrev pub FitsIfAny : Network → List Net → Option (List Kept) → Type 0
FitsIfAny graph nets None = Unit {0}
FitsIfAny graph nets (Some kept) = Fits graph nets kept
