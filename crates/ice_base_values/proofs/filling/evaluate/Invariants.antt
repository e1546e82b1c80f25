use Rattle.std.proofs.Common.{false}
use Rattle.ice_base_values.proofs.FillingSteps.{Filled}
use Rattle.ice_base_values.proofs.filling.evaluate.Given as goal

abbrev pub invariant-loop-point : goal.invariant-loop-point
invariant-loop-point g l = Filled (g.P.Points.system l.points) false l.order l.values l.point-index
