use Rattle.std.proofs.lemmas.Result.{IfOk-weaker}
use Rattle.ice_negotiate_defs.specs.Logs.{AreRoutedFrom}
use Rattle.ice_negotiate_defs.specs.declared.fault.Routed.{Routed}
use Rattle.ice_emit_defs.specs.Routed.{AreTrees}
use Rattle.ice_flow_build.specs.Answers.{opening_in, routes_in}
use Rattle.ice_flow_build.specs.Laid.{plan_in}
use Rattle.ice_flow_build.proofs.routing.route.Goals as goal

pub open-requires-clause-nets : goal.open-requires-clause-nets
open-requires-clause-nets g c κs within =
    c.placed_nets_are_routable.ensures c.args.index.now.chip.now c.requires.placed.0 (plan_in c.args.layout.now) c.args.layout.now.pads.pullups c.in_ok-graph.graph c.args.nets.now
    c.is_chip.ensures c.requires.placed.1 (record { wires = c.in_ok-graph.ensures.wires; edges = c.in_ok-graph.ensures.edges }) c.requires.nets

pub route_from-requires-clause-nets : goal.route_from-requires-clause-nets
route_from-requires-clause-nets g c κs within =
    c.placed_nets_are_routable.ensures c.args.index.now.chip.now c.requires.placed.0 (plan_in c.args.layout.now) c.args.layout.now.pads.pullups c.in_ok-graph.graph c.args.nets.now
    c.is_chip.ensures c.requires.placed.1 (record { wires = c.in_ok-graph.ensures.wires; edges = c.in_ok-graph.ensures.edges }) c.requires.nets

pub returns-clause-trees : goal.returns-clause-trees
returns-clause-trees g c =
    IfOk-weaker c.route_from.result (AreRoutedFrom c.in_ok-graph.graph c.args.nets.now (opening_in c.args.effort c.deref.result.now) c.args.effort.rounds)
    (λ (routed : Routed). AreTrees c.args.index.now.chip.now (plan_in c.args.layout.now) (routes_in routed))
    (λ routed is. c.routed_nets_are_trees.ensures c.args.index.now.chip.now (plan_in c.args.layout.now) c.in_ok-graph.graph c.args.nets.now (opening_in c.args.effort c.deref.result.now) c.args.effort.rounds routed
    (record { wires = c.in_ok-graph.ensures.wires; edges = c.in_ok-graph.ensures.edges }) c.requires.nets
    c.route_from.ensures.leads is)
    c.route_from.ensures.routed
