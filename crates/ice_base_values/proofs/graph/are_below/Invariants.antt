use Rattle.std.proofs.Common.{ℕ, ◌<◌}
use Rattle.ice_base_values.specs.Order.{At}
use Rattle.ice_base_values.proofs.graph.are_below.Given as goal

abbrev pub invariant-loop-point : goal.invariant-loop-point
invariant-loop-point l = (k point : ℕ) → k < l.point-index → At l.row k point → point < l.points
