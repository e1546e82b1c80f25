-- The nets of a placed design, routed on the graph of a chip's usable rows.
use Rattle.std.specs.Prelude.{◌≡◌, ℕ, List, Option, map}
use Rattle.ice_chip.specs.Database.{Parts}
use Rattle.ice_core.specs.declared.net.Net.{Net}
use Rattle.ice_fabric.specs.Edges.{usable_rows}
use Rattle.ice_graph.specs.Network.{Network}
use Rattle.ice_graph.specs.declared.tree.Tree.{Tree}
use Rattle.ice_negotiate_defs.specs.Leading.{OpeningLeads}
use Rattle.ice_negotiate_defs.specs.Logs.{AreRoutedFrom}
use Rattle.ice_graph.specs.Leading.{route_of}
use Rattle.ice_negotiate_defs.specs.declared.fault.Routed.{Routed}
use Rattle.ice_emit_nets.specs.Nets.{bare_net, nets_of}
use Rattle.ice_place_defs.specs.Plan.{Plan}
use Rattle.ice_emit_defs.specs.Routed.{AreTrees}

-- the graph of the usable rows of a chip, between its wires
pub record IsFabric (parts : Parts) (graph : Network) : Type 0 where
  pub wires : graph.wires ≡ parts.wires
  pub edges : graph.edges ≡ usable_rows parts

-- the nets are those of the placed design, in order
abbrev pub AreNetsOf : Parts → Plan → List Net → Type 0
AreNetsOf parts plan nets = map bare_net nets ≡ nets_of parts plan

-- nets that are routed, also from an opening of trees that lead, have a tree each
abbrev pub RoutedNetsAreTrees : Type 0
RoutedNetsAreTrees =
    (parts : Parts) (plan : Plan) (graph : Network) (nets : List Net) (opening : Option (List (Option Tree))) (permitted : ℕ) (routed : Routed)
    → IsFabric parts graph → AreNetsOf parts plan nets → OpeningLeads graph nets opening → AreRoutedFrom graph nets opening permitted routed → AreTrees parts plan (map route_of routed.trees.items)
