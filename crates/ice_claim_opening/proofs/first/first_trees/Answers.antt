use Rattle.ice_claim_opening.proofs.Firsts.{first_next, net_there}
use Rattle.ice_claim_opening.proofs.first.first_trees.Goals as goal

pub first_of-requires-clause-root : goal.first_of-requires-clause-root
first_of-requires-clause-root c = (net_there c.args.graph.now c.args.nets.now c.loop-net.net-index c.net-item.result c.requires.nets c.loop-net-test.true c.net-item.is).0

pub first_of-requires-clause-sinks : goal.first_of-requires-clause-sinks
first_of-requires-clause-sinks c = (net_there c.args.graph.now c.args.nets.now c.loop-net.net-index c.net-item.result c.requires.nets c.loop-net-test.true c.net-item.is).1

pub loop-net-preserved : goal.loop-net-preserved
loop-net-preserved c = record {
  firsts = first_next c.args.graph.now c.args.nets.now c.loop-net.net-index c.loop-net.kept.items _ c.net-item.result c.in_ok-first_of.field-0 c.loop-net-test.true c.net-item.is c.loop-net.invariant.firsts c.in_ok-first_of.ensures.first c.in_ok-push.ensures.items;
  scratch = c.first_of.ensures.scratch;
}
