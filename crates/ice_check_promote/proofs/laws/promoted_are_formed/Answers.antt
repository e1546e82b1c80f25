use Rattle.ice_check_promote.proofs.NewFormed.{promoted_formed}
use Rattle.ice_check_promote.proofs.laws.promoted_are_formed.Goals as goal

pub returns : goal.returns
returns c n outer free formed room = promoted_formed n outer free formed room
