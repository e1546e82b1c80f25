use Rattle.ice_place_defs.specs.Plan.{plan_in}
use Rattle.ice_emit_nets.proofs.Rooting.{roots_are}
use Rattle.ice_emit_nets.proofs.wires.wires_of.Goals as goal

pub returns : goal.returns
returns c =
    roots_are c.args.placed.now.chip.now (plan_in c.args.placed.now) c.in_ok-pads.pads.items c.in_ok-cells.cells.items c.in_ok-globals.globals.items c.in_ok-pads.ensures c.in_ok-cells.ensures c.in_ok-globals.ensures
