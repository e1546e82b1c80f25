use Rattle.ice_decode.proofs.Valued.{faultless_valued}
use Rattle.ice_decode.proofs.laws.faultless_points_have_values.Goals as goal

pub returns : goal.returns
returns c = faultless_valued
