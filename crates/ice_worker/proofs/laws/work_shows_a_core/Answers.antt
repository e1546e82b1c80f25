use Rattle.ice_worker.proofs.Moments.{work_shows_core}
use Rattle.ice_worker.proofs.laws.work_shows_a_core.Goals as goal

pub returns : goal.returns
returns c = work_shows_core
