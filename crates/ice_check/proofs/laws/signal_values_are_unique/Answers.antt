use Rattle.ice_check.proofs.Faulty.{values_unique}
use Rattle.ice_check.proofs.laws.signal_values_are_unique.Goals as goal

pub returns : goal.returns
returns c = values_unique
