use Rattle.std.proofs.Common.{◌++◌, drop, ◌+◌}
use Rattle.ice_cells.specs.declared.cluster.Cluster.{Cluster}
use Rattle.ice_anneal_nets.specs.Reads.{cluster_reads, clusters_reads}
use Rattle.ice_anneal_nets.proofs.Joining.{clusters_more, clusters_end, step_joined, end_joined}
use Rattle.ice_anneal_nets.proofs.reading.add_clusters.Goals as goal

pub loop-k-preserved : goal.loop-k-preserved
loop-k-preserved c =
    let cells = c.args.cells.now in
    let clusters = c.args.clusters.now in
    let k = c.loop-k.k in
    let z : Cluster = c.index-clusters-k.result in
    step_joined c.loop-k.reads.items c.add_cluster.new.reads.items (cluster_reads cells k z) (clusters_reads cells (k + 1) (drop (k + 1) clusters)) (clusters_reads cells k (drop k clusters)) (c.args.reads.now.items ++ clusters_reads cells 0 clusters)
    (clusters_more cells clusters k z z c.loop-k-test.true c.index-clusters-k.is) c.in_ok-add_cluster.ensures c.loop-k.invariant

pub returns : goal.returns
returns c =
    let cells = c.args.cells.now in
    let clusters = c.args.clusters.now in
    end_joined c.loop-k.reads.items (clusters_reads cells c.loop-k.k (drop c.loop-k.k clusters)) (c.args.reads.now.items ++ clusters_reads cells 0 clusters) (clusters_end cells clusters c.loop-k.k c.loop-k-test.false) c.loop-k.invariant
