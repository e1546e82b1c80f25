use Rattle.ice_base_values.proofs.Values.{value_ordered}
use Rattle.ice_base_values.proofs.laws.ordered_points_have_values.Goals as goal

pub returns : goal.returns
returns g c = value_ordered
