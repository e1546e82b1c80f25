use Rattle.std.proofs.Common.{arith}
use Rattle.ice_emit_nets.specs.Given.{cluster_ends}
use Rattle.ice_emit_nets.proofs.Siding.{sides_step, sides_end, clusters_are}
use Rattle.ice_emit_nets.proofs.clusters.push_clusters.Goals as goal

pub loop-k-preserved : goal.loop-k-preserved
loop-k-preserved c =
    sides_step (cluster_ends c.args.chip.now c.args.cells.now) c.args.tiles.now c.args.clusters.now c.loop-k.k c.index-clusters-k.result c.index-clusters-k.result c.tile_at.result c.loop-k.ends.items c.push_cluster_at.new.ends.items _
    (omega arith) c.index-clusters-k.is c.tile_at.ensures c.in_ok-push_cluster_at.ensures c.loop-k.invariant

pub returns : goal.returns
returns c =
    clusters_are c.args.chip.now c.args.cells.now c.args.tiles.now c.args.clusters.now c.args.ends.now.items c.loop-k.ends.items
    (sides_end (cluster_ends c.args.chip.now c.args.cells.now) c.args.tiles.now c.args.clusters.now c.loop-k.k c.loop-k.ends.items _ (omega arith) c.loop-k.invariant)
