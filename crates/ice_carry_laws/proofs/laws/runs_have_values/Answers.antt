use Rattle.ice_carry_laws.proofs.AllValues.{have_values}
use Rattle.ice_carry_laws.proofs.laws.runs_have_values.Goals as goal

pub returns : goal.returns
returns c d ready within = have_values d ready within
