use Rattle.std.proofs.Common.{◌≤◌}
use Rattle.ice_graph.specs.Boxes.{IsSpreadUpTo}
use Rattle.ice_graph.proofs.boxes.spread_of.Given as goal

abbrev pub invariant-loop-edge : goal.invariant-loop-edge
invariant-loop-edge l = record {
  spread : IsSpreadUpTo l.edges l.boxes l.edge-index l.spread;
  small : l.spread ≤ 131070;
}
