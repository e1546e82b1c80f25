use Rattle.std.proofs.Common.{◌≡◌, ◌+◌, length}
use Rattle.ice_graph.specs.Levels.{AreLevels, lists_of}
use Rattle.ice_graph.proofs.levels.levels_of.Given as goal

abbrev pub invariant-loop-place : goal.invariant-loop-place
invariant-loop-place l = record {
  long : length l.levels.items ≡ l.place + 1;
  levels : AreLevels l.edges l.fn.homes.items (lists_of l.levels.items);
}
