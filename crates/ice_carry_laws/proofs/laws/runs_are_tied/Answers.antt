use Rattle.ice_carry_laws.proofs.TiedRuns.{are_runs}
use Rattle.ice_carry_laws.proofs.laws.runs_are_tied.Goals as goal

pub returns : goal.returns
returns c d ready = are_runs d ready
