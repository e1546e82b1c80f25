use Rattle.std.proofs.Common.{subst}
use Rattle.ice_graph.specs.Network.{BoundsFall, network_of}
use Rattle.ice_graph.proofs.Bounding.{bounds_fall}
use Rattle.ice_graph.proofs.graph.Graph.is_graph.Goals as goal

pub returns-clause-bounds : goal.returns-clause-bounds
returns-clause-bounds c = subst BoundsFall c.self.view_is (bounds_fall (network_of c.self.inside) c.self.invariant.places c.self.invariant.between c.self.invariant.placed c.self.invariant.are_places)
