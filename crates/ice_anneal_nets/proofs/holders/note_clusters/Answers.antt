use Rattle.std.proofs.Common.{◌∙◌, ap, arith}
use Rattle.ice_anneal_nets.specs.Holders.{noted, slots_held}
use Rattle.ice_anneal_nets.proofs.Holding.{noted_more}
use Rattle.ice_anneal_nets.proofs.holders.note_clusters.Goals as goal

pub loop-k-preserved : goal.loop-k-preserved
loop-k-preserved c =
    noted_more c.args.clusters.now c.loop-k.k c.index-clusters-k.result c.loop-k.nodes.items c.note_cluster.new.nodes.items (omega arith) c.index-clusters-k.is
    (c.note_cluster.ensures ∙ ap (λ cells. noted c.loop-k.nodes.items (slots_held c.loop-k.k cells)) c.as_slice.ensures)
    ∙ c.loop-k.invariant
