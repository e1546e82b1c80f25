use Rattle.ice_graph.proofs.Hopping.{least}
use Rattle.ice_graph.proofs.laws.hops_are_least.Goals as goal

pub returns : goal.returns
returns c = least
