use Rattle.ice_path.proofs.Listing.{AreShut}
use Rattle.ice_path.proofs.queue.first_listed.Given as goal

abbrev pub invariant-loop-sum : goal.invariant-loop-sum
invariant-loop-sum l = AreShut l.heads l.entries l.settled l.low l.sum
