use Rattle.ice_base_values.proofs.Gaps.{value_gapped}
use Rattle.ice_base_values.proofs.laws.bare_inputs_read_bare.Goals as goal

pub returns : goal.returns
returns g c = value_gapped
