use Rattle.ice_base_values.proofs.Values.{value_unique}
use Rattle.ice_base_values.proofs.laws.values_are_unique.Goals as goal

pub returns : goal.returns
returns g c = value_unique
