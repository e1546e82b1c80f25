use Rattle.ice_graph.specs.Levels.{IsColumnOf, lists_of}
use Rattle.ice_graph.proofs.levels.column_of.Given as goal

abbrev pub invariant-loop-wire : goal.invariant-loop-wire
invariant-loop-wire l = IsColumnOf (lists_of l.levels) l.wire l.bit l.column.items
