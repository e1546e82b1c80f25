use Rattle.ice_decode.proofs.Valued.{valued}
use Rattle.ice_decode.proofs.laws.points_have_values.Goals as goal

pub returns : goal.returns
returns c = valued
