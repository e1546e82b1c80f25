use Rattle.std.proofs.Common.{◌≡◌, ◌++◌, take}
use Rattle.std.specs.Prelude.{flat_map}
use Rattle.ice_emit.specs.Views.{rows_in}
use Rattle.ice_emit.proofs.rows.push_trees.Given as goal

abbrev pub invariant-loop-tree : goal.invariant-loop-tree
invariant-loop-tree l = l.rows.items ≡ l.initial.rows.items ++ flat_map rows_in (take l.tree-index l.trees)
