use Rattle.ice_flow_build.proofs.Standing.{laid_on_sites}
use Rattle.ice_flow_build.specs.Laid.{task_of}
use Rattle.ice_flow_build.proofs.laws.layouts_stand_on_their_chip.Goals as goal

pub returns : goal.returns
returns c = λ name constraints layout laid. c.designs_stand_on_their_chip.ensures name constraints layout (laid_on_sites (task_of c.args.chip.now name constraints c.args.sound.now) layout laid)
