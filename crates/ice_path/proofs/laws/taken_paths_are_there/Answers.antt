use Rattle.ice_path.proofs.Choosing.{choice_there}
use Rattle.ice_path.proofs.laws.taken_paths_are_there.Goals as goal

pub returns : goal.returns
returns c edges price tree targets w n positive target walk = choice_there edges price tree targets positive w n target walk
