use Rattle.std.proofs.Common.{◌≡◌, take}
use Rattle.ice_core.specs.Routes.{lists_of, tree_wires}
use Rattle.ice_core.proofs.copies.tree_routes.Given as goal

abbrev pub invariant-loop-tree : goal.invariant-loop-tree
invariant-loop-tree l = lists_of l.lists.items ≡ tree_wires (take l.tree-index l.trees)
