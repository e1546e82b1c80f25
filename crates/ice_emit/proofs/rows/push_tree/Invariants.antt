use Rattle.std.proofs.Common.{◌≡◌, ◌++◌, take}
use Rattle.ice_emit.proofs.rows.push_tree.Given as goal

abbrev pub invariant-loop-row : goal.invariant-loop-row
invariant-loop-row l = l.rows.items ≡ l.initial.rows.items ++ take l.row-index l.tree
