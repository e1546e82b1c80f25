use Rattle.std.proofs.Common.{ap}
use Rattle.ice_base.proofs.Pushed.{mapped_push}
use Rattle.ice_cells.specs.declared.cluster.Cluster.{Cluster}
use Rattle.ice_anneal.proofs.free.chunks_of.Goals as goal

pub loop-cluster-preserved : goal.loop-cluster-preserved
loop-cluster-preserved c =
    let cluster = c.cluster-item.result in
    mapped_push (λ (k : Cluster). k.run) c.args.clusters.now c.loop-cluster.cluster-index cluster cluster.run c.loop-cluster.chunks.items c.push.new.self.items c.loop-cluster-test.true
    c.loop-cluster.invariant c.in_ok-push.ensures.items (ap (λ (k : Cluster). k.run) c.cluster-item.is)
