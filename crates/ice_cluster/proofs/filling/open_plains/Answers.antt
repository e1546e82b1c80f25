use Rattle.ice_cluster.proofs.Opening.{plain_more}
use Rattle.ice_cluster.proofs.filling.open_plains.Goals as goal

pub loop-k-preserved : goal.loop-k-preserved
loop-k-preserved c =
    plain_more c.args.plains.now c.loop-k.k c.args.groups.now.items c.loop-k.groups.items c.open.new.groups.items c.piece.result.now c.in_ok-open.field-0.now c.loop-k.invariant c.piece.ensures c.in_ok-open.ensures
