use Rattle.ice_place_length.specs.Grown.{box_in, loads_in}
use Rattle.ice_place_defs.specs.Plan.{plan_in}
use Rattle.ice_place_length.proofs.Summing.{net_some}
use Rattle.ice_place_length.proofs.nets.net_length.Goals as goal

pub returns-in-Some-clause-value : goal.returns-in-Some-clause-value
returns-in-Some-clause-value c =
    net_some (plan_in c.args.placed.now) (loads_in c.args.placed.now) c.args.root c.in-Some.tile (box_in c.span_at.result) (box_in c.with_loads.result) c.half_perimeter.result c.in-Some.ensures c.span_at.ensures c.with_loads.ensures
    c.half_perimeter.ensures.value
