use Rattle.ice_decode.proofs.Valued.{counted}
use Rattle.ice_decode.proofs.laws.points_are_counted.Goals as goal

pub returns : goal.returns
returns c = counted
