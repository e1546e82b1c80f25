use Rattle.std.proofs.Common.{arith}
use Rattle.ice_emit_nets.proofs.Siding.{sides_step, sides_end}
use Rattle.ice_emit.specs.Links.{cluster_link}
use Rattle.ice_emit_settings.specs.Views.{switches}
use Rattle.ice_emit.proofs.Beside.{links_are}
use Rattle.ice_emit.proofs.links.push_links.Goals as goal

pub loop-k-preserved : goal.loop-k-preserved
loop-k-preserved c =
    sides_step (cluster_link c.args.index.now.chip.now c.args.cells.now) c.args.tiles.now c.args.clusters.now c.loop-k.k c.index-clusters-k.result c.index-clusters-k.result c.tile_at.result (switches c.args.index.now.chip.now c.loop-k.rows.items)
    (switches c.args.index.now.chip.now c.push_cluster_at.new.rows.items) _ (omega arith) c.index-clusters-k.is c.tile_at.ensures c.in_ok-push_cluster_at.ensures c.loop-k.invariant

pub returns : goal.returns
returns c =
    links_are c.args.index.now.chip.now c.args.cells.now c.args.tiles.now c.args.clusters.now (switches c.args.index.now.chip.now c.args.rows.now.items) (switches c.args.index.now.chip.now c.loop-k.rows.items)
    (sides_end (cluster_link c.args.index.now.chip.now c.args.cells.now) c.args.tiles.now c.args.clusters.now c.loop-k.k (switches c.args.index.now.chip.now c.loop-k.rows.items) _ (omega arith) c.loop-k.invariant)
