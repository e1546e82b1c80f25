use Rattle.ice_carry_laws.proofs.FormedRuns.{formed_after}
use Rattle.ice_carry_laws.proofs.laws.runs_are_formed.Goals as goal

pub returns : goal.returns
returns c d ready within formed = formed_after d ready within formed
