use Rattle.std.proofs.Common.{◌≡◌, ◌+◌, ◌<◌, ◌≤◌, length, count_by, vec_capacity}
use Rattle.ice_core.specs.Congestion.{price}
use Rattle.ice_path.specs.Search.{AreExactBehind}
use Rattle.ice_path.specs.Walks.{IsLabel}
use Rattle.ice_path.proofs.Stepping.{Goes, is_below}
use Rattle.ice_path.proofs.back.walk_back.Given as goal

abbrev pub invariant-loop-rest : goal.invariant-loop-rest
invariant-loop-rest l = record {
  within : l.wire < l.graph.wires;
  is : IsLabel l.graph.edges (price l.prices) l.tree l.wire l.rest;
  exact : AreExactBehind l.graph.edges (price l.prices) l.tree l.labels l.wire l.rest;
  goes : Goes l.graph.edges (price l.prices) l.tree l.target l.wire l.path.items;
  room : length l.path.items + count_by (is_below l.rest) l.labels ≤ length l.labels;
  space : vec_capacity l.path ≡ vec_capacity l.fn.path;
}

abbrev pub decreases-loop-rest : goal.decreases-loop-rest
decreases-loop-rest l = l.rest
