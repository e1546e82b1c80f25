use Rattle.std.proofs.Common.{◌≤◌, ◌-◌, length}
use Rattle.ice_graph.specs.Hops.{AreColumns}
use Rattle.ice_graph.proofs.table.Hops.new.Given as goal

abbrev pub invariant-loop-alloc : goal.invariant-loop-alloc
invariant-loop-alloc l = record {
  columns : AreColumns l.edges l.sets.items l.columns.items;
  within : length l.columns.items ≤ l.count;
}

abbrev pub decreases-loop-alloc : goal.decreases-loop-alloc
decreases-loop-alloc l = l.count - length l.columns.items
