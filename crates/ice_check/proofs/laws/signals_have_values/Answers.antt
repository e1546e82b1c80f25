use Rattle.ice_check.proofs.Faulty.{signals_valued}
use Rattle.ice_check.proofs.laws.signals_have_values.Goals as goal

pub returns : goal.returns
returns c = signals_valued
