use Rattle.ice_cluster.proofs.InOrders.{of_ranks}
use Rattle.ice_cluster.proofs.laws.ranks_give_clusterings.Goals as goal

pub returns : goal.returns
returns c ranks d = of_ranks ranks d
