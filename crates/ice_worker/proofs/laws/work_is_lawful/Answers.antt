use Rattle.ice_worker.proofs.Lawful.{work_lawful}
use Rattle.ice_worker.proofs.laws.work_is_lawful.Goals as goal

pub returns : goal.returns
returns c = work_lawful
