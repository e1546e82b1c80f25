use Rattle.ice_worker.proofs.Leaving.{AreBack}
use Rattle.ice_worker.proofs.lending.bring_back.Given as goal

abbrev pub invariant-loop-wire : goal.invariant-loop-wire
invariant-loop-wire l = AreBack l.counts l.old l.wire-index l.others
