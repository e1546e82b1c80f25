use Rattle.ice_core.proofs.Counting.{core_counts}
use Rattle.ice_core.proofs.laws.the_core_counts.Goals as goal

pub returns : goal.returns
returns c = core_counts
