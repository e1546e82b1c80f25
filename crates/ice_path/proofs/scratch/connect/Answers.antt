use Rattle.std.proofs.Common.{List, IfSome, refl, subst}
use Rattle.ice_base.specs.declared.number.WireNo.{WireNo}
use Rattle.ice_core.specs.Congestion.{price}
use Rattle.ice_graph.specs.Network.{least_bound}
use Rattle.ice_path.specs.Walks.{AreSettled}
use Rattle.ice_path.proofs.Aiming.{plain_aim, plain_bound, settled_if}
use Rattle.ice_path.proofs.scratch.connect.Goals as goal

pub find-cost-requires-clause-aim : goal.find-cost-requires-clause-aim
find-cost-requires-clause-aim c = plain_aim _ _ c.args.prices.now c.is_graph.ensures.bounds refl refl refl refl c.requires.some

pub returns-clause-settled : goal.returns-clause-settled
returns-clause-settled c =
    subst (λ (tree : List WireNo). IfSome c.find-cost.result (λ cost. AreSettled c.args.graph.now.edges (price c.args.prices.now) tree (least_bound c.args.graph.now c.args.targets.now) cost c.find-cost.new.order.items)) c.deref.ensures.value
    (settled_if _ _ _ _ _ c.find-cost.result c.find-cost.new.order.items c.find-cost.ensures.listed (plain_bound _ _ c.args.prices.now c.is_graph.ensures.bounds refl refl refl refl))
