use Rattle.ice_cluster.proofs.AsMany.{as_many}
use Rattle.ice_cluster.proofs.laws.orders_need_as_many.Goals as goal

pub returns : goal.returns
returns c d clusters of_cells = as_many d clusters of_cells
