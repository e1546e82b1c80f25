-- The trees of all nets at price 1, and their wires.
use Rattle.std.specs.Prelude.{◌≡◌, ℕ, List, [], Some, length, slice_get}
use Rattle.ice_base.specs.declared.number.WireNo.{WireNo}
use Rattle.ice_graph.specs.Network.{Network}
use Rattle.ice_core.specs.declared.net.Net.{Net}
use Rattle.ice_core.specs.Routes.{numbers}
use Rattle.ice_negotiate_defs.specs.Trees.{AreOnce, IsCause, IsRooted}
use Rattle.ice_negotiate_defs.specs.declared.stop.TreeStop.TheVariants.{Unreachable}
use Rattle.ice_negotiate_defs.specs.declared.kept.Kept.{Kept}
use Rattle.ice_negotiate_defs.specs.declared.kept.Kept.TheVariants.{Whole, Lost, Cut}
use Rattle.ice_claim_opening.specs.Opened.{IsAtOne}

-- the net has its tree at price 1, or it is cut
abbrev pub IsFirst : Network → Net → Kept → Type 0
IsFirst graph net (Whole tree) = IsAtOne graph net tree × IsRooted graph net.root tree.wires.items × AreOnce tree.wires.items
IsFirst graph net (Lost wire) = ⊥
IsFirst graph net (Cut wire) = IsCause graph.edges net.root net.sinks.items (Unreachable wire)

pub record AreFirst (graph : Network) (nets : List Net) (kept : List Kept) : Type 0 where
  pub long : length kept ≡ length nets
  pub each : (n : ℕ) (net : Net) (one : Kept) → slice_get nets n ≡ Some net → slice_get kept n ≡ Some one → IsFirst graph net one

-- the wires of a kept tree
abbrev pub kept_wires : Kept → List WireNo
kept_wires (Whole tree) = tree.wires.items
kept_wires (Lost wire) = []
kept_wires (Cut wire) = []

abbrev pub wires_by_number : Kept → List ℕ
wires_by_number kept = numbers (kept_wires kept)
