use Rattle.std.proofs.Common.{◌≡◌, ◌≤◌, drop}
use Rattle.ice_graph.specs.Nearest.{nearest, nearest_from}
use Rattle.ice_graph.proofs.graph.Graph.nearest.Given as goal

abbrev pub invariant-loop-target : goal.invariant-loop-target
invariant-loop-target l = record {
  nearest : nearest l.self l.targets l.wire.0 ≡ nearest_from l.self l.wire.0 l.nearest (drop l.target-index l.target-items);
  small : l.nearest ≤ 131071;
}
