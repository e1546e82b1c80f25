use Rattle.ice_base_values.proofs.Cycles.{value_in_cycle}
use Rattle.ice_base_values.proofs.laws.cycles_have_no_value.Goals as goal

pub returns : goal.returns
returns g c = value_in_cycle
