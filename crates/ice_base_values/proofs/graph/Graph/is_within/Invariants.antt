use Rattle.std.proofs.Common.{ℕ, ◌<◌}
use Rattle.ice_base_values.specs.Order.{Has}
use Rattle.ice_base_values.specs.Graph.{depends_of}
use Rattle.ice_base_values.proofs.graph.Graph.is_within.Given as goal

abbrev pub invariant-loop-point : goal.invariant-loop-point
invariant-loop-point l = (p q : ℕ) → p < l.point → Has (depends_of l.self p) q → q < l.points
