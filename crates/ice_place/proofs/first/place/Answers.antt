use Rattle.std.proofs.Common.{◌∙◌}
use Rattle.ice_place.proofs.Orders.{order_within}
use Rattle.ice_place.proofs.first.place.Goals as goal

pub fit_runs-requires-clause-order : goal.fit_runs-requires-clause-order
fit_runs-requires-clause-order c = order_within _ c.args.runs.now c.as_slice.result.now (c.as_slice.ensures.value ∙ c.in_ok-order.ensures)
