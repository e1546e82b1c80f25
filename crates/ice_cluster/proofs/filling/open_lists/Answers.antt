use Rattle.std.proofs.Common.{◌∙◌, arith}
use Rattle.ice_cluster.proofs.Opening.{groups_more}
use Rattle.ice_cluster.proofs.filling.open_lists.Goals as goal

pub loop-k-preserved : goal.loop-k-preserved
loop-k-preserved c =
    groups_more c.args.sets.now.keys c.args.lists.now c.loop-k.k c.index-lists-k.result c.as_slice.result.now c.loop-k.rest.now c.in_ok-rest.rest.now c.loop-k.groups.items c.open_list.new.groups.items
    (omega arith) c.index-lists-k.is c.as_slice.ensures c.in_ok-rest.ensures
    ∙ c.loop-k.invariant
