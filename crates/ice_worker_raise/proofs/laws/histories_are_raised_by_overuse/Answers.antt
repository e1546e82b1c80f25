use Rattle.ice_worker_raise.proofs.Summing.{raising_law}
use Rattle.ice_worker_raise.proofs.laws.histories_are_raised_by_overuse.Goals as goal

pub returns : goal.returns
returns c = raising_law
