use Rattle.ice_decode.proofs.Valued.{unique}
use Rattle.ice_decode.proofs.laws.point_levels_are_unique.Goals as goal

pub returns : goal.returns
returns c = unique
