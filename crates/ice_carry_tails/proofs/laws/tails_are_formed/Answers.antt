use Rattle.ice_carry_tails.proofs.NewFormed.{with_tails_formed}
use Rattle.ice_carry_tails.proofs.laws.tails_are_formed.Goals as goal

pub returns : goal.returns
returns c n tables formed can few = with_tails_formed n tables formed can few
