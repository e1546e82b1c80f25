use Rattle.std.proofs.Common.{◌≡◌, [], arith, sym, subst}
use Rattle.ice_flow_build.specs.Laid.{IsLaidOut, task_of}
use Rattle.ice_flow_build.specs.declared.answer.Layout.{Layout}
use Rattle.ice_flow_sample_cmd.specs.Samples.{package_name}
use Rattle.ice_flow_sample_cmd.specs.Standing.{TaskStands}
use Rattle.ice_flow_frame.proofs.Refusing.{memory_refused}
use Rattle.ice_flow_sample_cmd.proofs.Refusing.{end_refused, sampled}
use Rattle.ice_flow_sample_cmd.proofs.routing.route_placed.Goals as goal

pub route_layout-requires-clause-placed : goal.route_layout-requires-clause-placed
route_layout-requires-clause-placed g c κs within = let s = c.layouts_stand_on_their_chip.ensures package_name [] c.args.layout c.requires.laid in let none : s.2.rams ≡ 0 = s.4 in (s.0, s.2, omega (arith, none))

pub returns-in-Ok-clause-made : goal.returns-in-Ok-clause-made
returns-in-Ok-clause-made g c =
    let task = task_of c.args.index.now.chip.now package_name [] c.args.sound.now in
    let made = c.in-Ok.made in
    let is = c.in-Ok.ensures.routed in
    let e = c.sum_up.ensures in
    sampled c.args.request.now.number task made.layout made.kept.items made.routed c.sum_up.result c.requires.asked
    (subst (λ (layout : Layout). IsLaidOut task layout) (sym is.same) c.requires.laid) is.routed e.text e.arrangement e.told

pub returns-in-Ok-clause-refused : goal.returns-in-Ok-clause-refused
returns-in-Ok-clause-refused g c = memory_refused (TaskStands (task_of c.args.index.now.chip.now package_name [] c.args.sound.now)) c.sum_up.result c.sum_up.ensures.stop

pub returns-in-Err-clause-refused : goal.returns-in-Err-clause-refused
returns-in-Err-clause-refused g c =
    end_refused (task_of c.args.index.now.chip.now package_name [] c.args.sound.now) c.args.request.now.workers c.args.layout c.in-Err.fault c.cause_of.result c.requires.laid c.in-Err.ensures.fault
    c.cause_of.ensures
