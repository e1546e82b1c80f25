use Rattle.std.proofs.Common.{◌≡◌, drop, map}
use Rattle.ice_graph.specs.Leading.{route_of}
use Rattle.ice_emit.specs.Holding.{noted, all_holdings}
use Rattle.ice_emit.proofs.owners.note_trees.Given as goal

abbrev pub invariant-loop-k : goal.invariant-loop-k
invariant-loop-k l = noted l.owners.items (all_holdings l.k (map route_of (drop l.k l.trees))) ≡ noted l.initial.owners.items (all_holdings 0 (map route_of l.trees))
