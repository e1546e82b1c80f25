use Rattle.std.proofs.Common.{[], sym, subst}
use Rattle.std.specs.Prelude.{IfErr}
use Rattle.ice_chip.specs.Database.{Parts}
use Rattle.ice_flow_build.specs.Laid.{task_of}
use Rattle.ice_flow_frame.specs.Commands.{IsRefusal}
use Rattle.ice_flow_sample_cmd.specs.Samples.{IsAsked, package_name}
use Rattle.ice_flow_sample_cmd.specs.Standing.{TaskStands}
use Rattle.ice_flow_sample_cmd.proofs.routing.route_task.Goals as goal

-- the chip of the index is the one at hand
pub route_by-requires-clause-asked : goal.route_by-requires-clause-asked
route_by-requires-clause-asked g c κs within =
    subst (λ (parts : Parts). IsAsked c.args.request.now.number (task_of parts package_name [] c.args.task.now.sound)) (sym c.in-Ok.ensures) c.requires.asked

pub returns-in-Ok-clause-refused : goal.returns-in-Ok-clause-refused
returns-in-Ok-clause-refused g c =
    subst (λ (parts : Parts). IfErr c.route_by.result (λ cause. IsRefusal (TaskStands (task_of parts package_name [] c.args.task.now.sound)) cause)) c.in-Ok.ensures c.route_by.ensures.refused
