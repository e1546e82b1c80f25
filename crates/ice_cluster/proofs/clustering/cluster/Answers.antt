use Rattle.std.proofs.Common.{◌∙◌, ap, length}
use Rattle.ice_cells.specs.declared.cluster.Clusters.{Clusters}
use Rattle.ice_cluster.proofs.InOrders.{unranked}
use Rattle.ice_cluster.proofs.clustering.cluster.Goals as goal

pub returns-clause-clusters : goal.returns-clause-clusters
returns-clause-clusters c = c.in_ok-clusters.ensures.clusters ∙ unranked c.args.design.now

pub returns-clause-need : goal.returns-clause-need
returns-clause-need c = ap (λ (x : Clusters). length x.list) (c.in_ok-clusters.ensures.clusters ∙ unranked c.args.design.now)
