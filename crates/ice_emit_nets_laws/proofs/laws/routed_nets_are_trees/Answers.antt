use Rattle.ice_emit_nets_laws.proofs.Routing.{are_trees}
use Rattle.ice_emit_nets_laws.proofs.laws.routed_nets_are_trees.Goals as goal

pub returns : goal.returns
returns c = are_trees
