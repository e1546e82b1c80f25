use Rattle.ice_path.proofs.Listing.{shut_more, shut_all}
use Rattle.ice_path.proofs.queue.first_listed.Goals as goal

pub first_open-requires-clause-within : goal.first_open-requires-clause-within
first_open-requires-clause-within c = λ w on. c.requires.within c.loop-sum.sum w on

pub loop-sum-preserved : goal.loop-sum-preserved
loop-sum-preserved c = shut_more c.args.heads.now c.args.entries.now c.args.settled.now c.args.low c.loop-sum.sum c.loop-sum.invariant c.in_default.ensures.none

pub returns-clause-none : goal.returns-clause-none
returns-clause-none c = shut_all c.args.heads.now c.args.entries.now c.args.settled.now c.args.low c.loop-sum.sum c.requires.lists c.loop-sum-test.false c.loop-sum.invariant
