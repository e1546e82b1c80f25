use Rattle.ice_check_promote.proofs.PlainNames.{names_can}
use Rattle.ice_check_promote.proofs.laws.netlists_with_such_names_can_be_promoted.Goals as goal

pub returns : goal.returns
returns c n names room = names_can n names room
