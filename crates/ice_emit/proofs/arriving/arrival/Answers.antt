use Rattle.std.proofs.Common.{◌∙◌}
use Rattle.ice_emit.proofs.Arrived.{arrival_is}
use Rattle.ice_emit.proofs.arriving.arrival.Goals as goal

pub returns : goal.returns
returns c =
    c.first_held.ensures
    ∙ arrival_is c.args.routed.now c.args.tile c.args.i c.args.root c.root_wire.result c.tree_at-tree.result c.requires c.root_wire.ensures c.tree_at-tree.ensures
