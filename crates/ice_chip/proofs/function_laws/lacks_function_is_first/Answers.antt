use Rattle.ice_chip.proofs.LackingLaws.{first_lack}
use Rattle.ice_chip.proofs.function_laws.lacks_function_is_first.Goals as goal

pub returns : goal.returns
returns c = first_lack
