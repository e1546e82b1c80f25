use Rattle.ice_emit_nets.specs.Collected.{bare_nets}
use Rattle.ice_place_defs.specs.Plan.{plan_in}
use Rattle.ice_emit_nets.specs.Rooted.{wires_in}
use Rattle.ice_emit_nets.specs.Sorted.{sorted_in}
use Rattle.ice_emit_nets.proofs.Netting.{nets_are}
use Rattle.ice_emit_nets.proofs.making.nets_in.Goals as goal

pub returns-clause-nets : goal.returns-clause-nets
returns-clause-nets c =
    nets_are c.args.placed.now.chip.now (plan_in c.args.placed.now) c.in_ok-ends.ends.items (sorted_in c.in_ok-lists.lists) (wires_in c.in_ok-wires.wires) (bare_nets c.in_ok-nets.nets.items) c.in_ok-ends.ensures c.in_ok-lists.ensures
    c.in_ok-wires.ensures c.in_ok-nets.ensures.nets
