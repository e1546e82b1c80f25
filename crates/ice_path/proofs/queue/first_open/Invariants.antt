use Rattle.ice_path.proofs.Listing.{GoesOn}
use Rattle.ice_path.proofs.queue.first_open.Given as goal

abbrev pub invariant-loop-rest : goal.invariant-loop-rest
invariant-loop-rest l = GoesOn l.entries l.settled l.head l.rest

abbrev pub decreases-loop-rest : goal.decreases-loop-rest
decreases-loop-rest l = l.rest
