use Rattle.ice_carry_chains.proofs.Holding.{hold_carries}
use Rattle.ice_carry_chains.proofs.laws.runs_hold_the_carries.Goals as goal

pub returns : goal.returns
returns c d ready = hold_carries d ready
