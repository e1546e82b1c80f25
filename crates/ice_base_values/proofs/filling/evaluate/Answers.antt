use Rattle.std.proofs.Common.{false, get_or, subst, ◌∙◌, arith}
use Rattle.std.proofs.lemmas.Option.{slice_get-get_or}
use Rattle.ice_base_values.proofs.FillingSteps.{Filled, filled_more, filled_all}
use Rattle.ice_base_values.proofs.filling.evaluate.Goals as goal

pub loop-point-preserved : goal.loop-point-preserved
loop-point-preserved g c =
    filled_more (g.P.Points.system c.args.points.now) false (g.P.Points.points c.args.points.now) c.args.order.now c.loop-point.values c.loop-point.point-index
    (get_or c.args.order.now c.loop-point.point-index 0) c.local-value.result c.requires.order (c.loop-point.auto.values ∙ c.requires.values) c.loop-point.invariant
    (slice_get-get_or c.args.order.now c.loop-point.point-index 0 c.loop-point-test.true) c.local-value.ensures

pub returns : goal.returns
returns g c =
    filled_all (g.P.Points.system c.args.points.now) false (g.P.Points.points c.args.points.now) c.args.order.now c.loop-point.values c.requires.order
    (subst (λ i. Filled (g.P.Points.system c.args.points.now) false c.args.order.now c.loop-point.values i) (omega arith) c.loop-point.invariant)
