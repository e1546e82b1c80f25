use Rattle.std.proofs.Common.{[], ap, ◌∙◌, arith}
use Rattle.std.specs.Option.{option_map_or}
use Rattle.ice_emit_nets.specs.Slots.{noted, cluster_slots}
use Rattle.ice_emit_nets.proofs.Slotting.{noted_more}
use Rattle.ice_emit_nets.proofs.slots.note_clusters.Goals as goal

pub loop-k-preserved : goal.loop-k-preserved
loop-k-preserved c =
    noted_more c.args.tiles.now c.args.clusters.now c.loop-k.k c.index-clusters-k.result c.loop-k.slots.items c.note_cluster.new.slots.items (omega arith) c.index-clusters-k.is
    (c.note_cluster.ensures ∙ ap (λ o. noted c.loop-k.slots.items (option_map_or (cluster_slots c.index-clusters-k.result) o [])) c.tile_at.ensures)
    ∙ c.loop-k.invariant
