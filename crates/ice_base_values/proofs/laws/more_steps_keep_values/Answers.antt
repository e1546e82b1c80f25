use Rattle.ice_base_values.proofs.Values.{value_more}
use Rattle.ice_base_values.proofs.laws.more_steps_keep_values.Goals as goal

pub returns : goal.returns
returns g c = λ system steps more point x is. value_more system steps point x more is
