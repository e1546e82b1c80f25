use Rattle.ice_negotiate_defs.proofs.Leaving.{LeftOut}
use Rattle.ice_worker.proofs.lending.leave_out.Given as goal

abbrev pub invariant-loop-wire : goal.invariant-loop-wire
invariant-loop-wire l = LeftOut l.counts l.old l.wire-index l.others
