use Rattle.ice_flow_prepare.proofs.Composed.{few}
use Rattle.ice_flow_prepare.proofs.laws.prepared_are_few.Goals as goal

pub returns : goal.returns
returns c parts n outer le = few parts n outer le
