use Rattle.ice_path.proofs.Choosing.{choice_unique}
use Rattle.ice_path.proofs.laws.taken_paths_are_unique.Goals as goal

pub returns : goal.returns
returns c = choice_unique
