use Rattle.ice_negotiate.proofs.Keeping.{BeginTo}
use Rattle.ice_negotiate.proofs.start.first_trees.Given as goal

abbrev pub invariant-loop-net : goal.invariant-loop-net
invariant-loop-net l = BeginTo l.kept l.net l.trees.items
