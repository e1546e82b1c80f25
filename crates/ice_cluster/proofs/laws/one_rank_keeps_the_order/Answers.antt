use Rattle.ice_cluster.proofs.InOrders.{of_one_rank}
use Rattle.ice_cluster.proofs.laws.one_rank_keeps_the_order.Goals as goal

pub returns : goal.returns
returns c ranks rank d same = of_one_rank ranks rank d same
