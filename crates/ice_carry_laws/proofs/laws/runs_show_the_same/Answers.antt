use Rattle.ice_carry_laws.proofs.Shown.{runs_show}
use Rattle.ice_carry_laws.proofs.laws.runs_show_the_same.Goals as goal

pub returns : goal.returns
returns c d ready within levels = runs_show d ready within levels
