use Rattle.std.proofs.Common.{ℕ, ◌<◌, subst, below_more}
use Rattle.std.proofs.lemmas.Option.{get_or_from_slice_get}
use Rattle.ice_base_values.specs.Order.{At}
use Rattle.ice_base_values.proofs.graph.are_below.Goals as goal

pub loop-point-preserved : goal.loop-point-preserved
loop-point-preserved c k point lt at =
    below_more (λ i. (p : ℕ) → At c.args.row.now i p → p < c.args.points) c.loop-point.point-index
    (λ i before p here. c.loop-point.invariant i p before here)
    (λ p here. subst (λ q. q < c.args.points) (get_or_from_slice_get c.args.row.now c.loop-point.point-index p 0 here) c.if-point-points.false)
    k lt point at
