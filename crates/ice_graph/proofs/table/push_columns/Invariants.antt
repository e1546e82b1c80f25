use Rattle.std.proofs.Common.{◌≡◌, ◌+◌, length}
use Rattle.ice_graph.specs.Hops.{AreColumns}
use Rattle.ice_graph.proofs.table.push_columns.Given as goal

abbrev pub invariant-loop-bit : goal.invariant-loop-bit
invariant-loop-bit l = record {
  more : length l.columns.items ≡ length l.fn.columns.items + l.bit;
  columns : AreColumns l.edges l.sets l.columns.items;
}
