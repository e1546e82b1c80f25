use Rattle.std.proofs.Common.{List, [], subst}
use Rattle.ice_pcf.specs.declared.constraint.Constraint.{Constraint}
use Rattle.ice_flow_build.specs.Laid.{IsLaidOut, task_of}
use Rattle.ice_flow_build.specs.Stages.{IsLayFault}
use Rattle.ice_flow_sample_cmd.specs.Samples.{package_name}
use Rattle.ice_flow_sample_cmd.proofs.Refusing.{lay_refused}
use Rattle.ice_flow_sample_cmd.proofs.routing.route_by.Goals as goal

pub route_placed-requires-clause-laid : goal.route_placed-requires-clause-laid
route_placed-requires-clause-laid g c κs within =
    subst (λ (x : List Constraint). IsLaidOut (task_of c.args.index.now.chip.now package_name x c.args.sound.now) c.in-Ok-lay_out.layout) c.in-Ok.ensures c.in-Ok-lay_out.ensures.laid

pub returns-clause-refused : goal.returns-clause-refused
returns-clause-refused g c =
    lay_refused (task_of c.args.index.now.chip.now package_name [] c.args.sound.now) c.in-Err-lay_out.fault c.cause_of.result
    (subst (λ (x : List Constraint). IsLayFault (task_of c.args.index.now.chip.now package_name x c.args.sound.now) c.in-Err-lay_out.fault) c.in-Ok.ensures c.in-Err-lay_out.ensures.fault) c.cause_of.ensures
