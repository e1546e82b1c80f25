use Rattle.std.proofs.Common.{arith}
use Rattle.ice_emit_nets.proofs.Siding.{sides_step, sides_end}
use Rattle.ice_emit.specs.Routed.{cluster_gives}
use Rattle.ice_emit_settings.specs.Views.{views}
use Rattle.ice_emit.proofs.Beside.{clusters_are}
use Rattle.ice_emit.proofs.clusters.push_each.Goals as goal

pub loop-k-preserved : goal.loop-k-preserved
loop-k-preserved c =
    sides_step (cluster_gives c.args.routed.now) c.args.tiles.now c.args.clusters.now c.loop-k.k c.index-clusters-k.result c.index-clusters-k.result c.tile_at.result (views c.loop-k.made.items) (views c.push_cluster_at.new.made.items) _
    (omega arith) c.index-clusters-k.is c.tile_at.ensures c.in_ok-push_cluster_at.ensures c.loop-k.invariant

pub returns : goal.returns
returns c =
    clusters_are c.args.routed.now c.args.tiles.now c.args.clusters.now (views c.args.made.now.items) (views c.loop-k.made.items)
    (sides_end (cluster_gives c.args.routed.now) c.args.tiles.now c.args.clusters.now c.loop-k.k (views c.loop-k.made.items) _ (omega arith) c.loop-k.invariant)
