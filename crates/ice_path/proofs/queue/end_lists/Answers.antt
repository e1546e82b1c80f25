use Rattle.std.proofs.Common.{◌∙◌, arith, length-set}
use Rattle.ice_path.proofs.Listing.{ended_more, ended_all}
use Rattle.ice_path.proofs.queue.end_lists.Goals as goal

pub loop-sum-preserved : goal.loop-sum-preserved
loop-sum-preserved c = record {
  long = length-set c.loop-sum.heads c.loop-sum.sum 0 ∙ c.loop-sum.invariant.long;
  none = ended_more c.loop-sum.heads c.loop-sum.sum (omega (arith, c.loop-sum-test.true, c.loop-sum.auto.heads)) c.loop-sum.invariant.none;
}

pub returns-clause-none : goal.returns-clause-none
returns-clause-none c = ended_all c.loop-sum.heads c.loop-sum.sum (omega (arith, c.loop-sum-test.false, c.loop-sum.auto.heads)) c.loop-sum.invariant.none
