use Rattle.std.proofs.Common.{[]}
use Rattle.ice_flow_build.specs.Laid.{task_of}
use Rattle.ice_flow_sample_cmd.specs.Samples.{package_name}
use Rattle.ice_flow_sample_cmd.specs.Standing.{TaskStands, StandsForSample}
use Rattle.ice_flow_frame.proofs.Refusing.{refused_behind}
use Rattle.ice_flow_sample_cmd.proofs.Standing.{task_so}
use Rattle.ice_flow_sample_cmd.proofs.sampling.make.Goals as goal

pub returns-in-Ok-clause-refused : goal.returns-in-Ok-clause-refused
returns-in-Ok-clause-refused g c =
    let number = c.args.request.now.number in
    let task = task_of c.in-Ok.task.chip package_name [] c.in-Ok.task.sound in
    refused_behind (StandsForSample number) (TaskStands task) c.route_task-made.result (λ cause m. task_so number task cause c.in-Ok.ensures.task m) c.route_task-made.ensures.refused
