use Rattle.ice_negotiate.proofs.Listing.{Listed}
use Rattle.ice_negotiate.proofs.logs.moved_trees.Given as goal

abbrev pub invariant-loop-net : goal.invariant-loop-net
invariant-loop-net l = Listed l.trees l.moved l.net-index l.list.items
