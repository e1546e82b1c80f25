use Rattle.ice_path.proofs.Choosing.{choice_cheapest}
use Rattle.ice_path.proofs.laws.taken_paths_are_cheapest.Goals as goal

pub returns : goal.returns
returns c = choice_cheapest
