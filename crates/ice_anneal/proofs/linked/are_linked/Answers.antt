use Rattle.std.proofs.Common.{arith}
use Rattle.ice_anneal.proofs.Tables.{linked_by}
use Rattle.ice_anneal.proofs.linked.are_linked.Goals as goal

pub returns : goal.returns
returns c _ stretches order a b la lb next =
    let n = c.loop-c-test.false in
    linked_by c.args.order.now c.args.places.now.entries c.args.place.now c.args.chunks.now (λ k lt. c.loop-c.invariant.once k (omega arith)) (λ k lt. c.loop-c.invariant.followed k (omega arith)) stretches order a b la lb next
