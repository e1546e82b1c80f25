use Rattle.ice_core.proofs.Raising.{RaisedTo}
use Rattle.ice_core.proofs.history.raise.Given as goal

abbrev pub invariant-loop-w : goal.invariant-loop-w
invariant-loop-w l = RaisedTo l.fn.history l.counts l.w l.history
