use Rattle.std.proofs.Common.{arith}
use Rattle.std.proofs.lemmas.Grind.{common_steps}
use Rattle.ice_carry_chains.proofs.Chaining.{chain_on, end_on}
use Rattle.ice_carry_chains.proofs.chain.push_chain.Goals as goal

pub loop-step-preserved : goal.loop-step-preserved
loop-step-preserved c = (grind (arith, common_steps, chain_on), grind (arith, common_steps, end_on))
