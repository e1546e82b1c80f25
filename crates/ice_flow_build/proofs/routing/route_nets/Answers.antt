use Rattle.std.proofs.Common.{◌≡◌, refl, arith}
use Rattle.std.proofs.lemmas.Grind.{common_steps}
use Rattle.ice_flow_build.specs.Answers.{net_count}
use Rattle.ice_flow_build.specs.Laid.{plan_in}
use Rattle.ice_flow_build.specs.Stages.{unrouted}
use Rattle.ice_flow_build.proofs.Counting.{nets_counted}
use Rattle.ice_flow_build.proofs.routing.route_nets.Goals as goal

pub returns-in-Err-clause-fault : goal.returns-in-Err-clause-fault
returns-in-Err-clause-fault g c =
    let counted = nets_counted c.args.index.now.chip.now (plan_in c.args.layout) c.args.nets.items c.requires.nets in
    let few = c.requires.few in
    let same : c.unrouted.result ≡ unrouted c.args.layout (net_count c.args.index.now.chip.now (plan_in c.args.layout)) c.route.new.kept c.in-Err.fault = grind (arith, common_steps, counted, few) in
    (c.route.new.kept, c.in-Err.fault, c.in-Err.ensures.fault, same)

pub returns-in-Ok-clause-routed : goal.returns-in-Ok-clause-routed
returns-in-Ok-clause-routed g c = record {
  same = refl;
  counted = nets_counted c.args.index.now.chip.now (plan_in c.args.layout) c.args.nets.items c.requires.nets;
  routed = c.in-Ok.ensures.routed;
  trees = c.in-Ok.ensures.trees;
}
