use Rattle.std.proofs.Common.{take}
use Rattle.ice_anneal.specs.Order.{IsOrder}
use Rattle.ice_anneal.proofs.order.order_of.Given as goal

abbrev pub invariant-loop-stretch : goal.invariant-loop-stretch
invariant-loop-stretch l = IsOrder (take l.stretch-index l.stretches) l.order
