use Rattle.ice_base_values.proofs.Enough.{value_enough}
use Rattle.ice_base_values.proofs.laws.points_and_one_are_enough.Goals as goal

pub returns : goal.returns
returns g c = value_enough
