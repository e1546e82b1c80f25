use Rattle.ice_check.proofs.Faulty.{faulty}
use Rattle.ice_check.proofs.laws.faults_are_not_sound.Goals as goal

pub returns : goal.returns
returns c = faulty
