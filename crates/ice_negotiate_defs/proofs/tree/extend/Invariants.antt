use Rattle.std.proofs.Common.{◌≡◌, ◌++◌, map, take}
use Rattle.ice_graph.specs.declared.edge.Edge.{Edge}
use Rattle.ice_negotiate_defs.proofs.tree.extend.Given as goal

abbrev pub invariant-loop-edge : goal.invariant-loop-edge
invariant-loop-edge l = record {
  wires : l.tree.wires.items ≡ l.initial.tree.wires.items ++ map (λ (e : Edge). e.to) (take l.edge-index l.edges);
  rows : l.tree.rows.items ≡ l.initial.tree.rows.items ++ map (λ (e : Edge). e.row) (take l.edge-index l.edges);
}
