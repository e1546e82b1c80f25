-- The nets of placed designs meet what routing asks of nets.
use Rattle.std.specs.Prelude.{Bool, List}
use Rattle.ice_chip.specs.Database.{Parts, PackageRows}
use Rattle.ice_chip.specs.IsRead.{IsChip}
use Rattle.ice_core.specs.declared.net.Net.{Net}
use Rattle.ice_graph.specs.Network.{Network}
use Rattle.ice_negotiate_defs.specs.Rounds.{AreNets}
use Rattle.ice_place_defs.specs.Plan.{Plan}
use Rattle.ice_emit_defs.specs.Routed.{IsPlaced}
use Rattle.ice_emit_nets_laws.specs.Routing.{IsFabric, AreNetsOf}

abbrev pub PlacedNetsAreRoutable : Type 0
PlacedNetsAreRoutable =
    (parts : Parts) (rows : PackageRows) (plan : Plan) (pullups : List Bool) (graph : Network) (nets : List Net)
    → IsChip parts → IsPlaced parts rows plan pullups → IsFabric parts graph → AreNetsOf parts plan nets → AreNets graph nets
