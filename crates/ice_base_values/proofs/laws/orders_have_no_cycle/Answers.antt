use Rattle.ice_base_values.proofs.Cycles.{no_cycle}
use Rattle.ice_base_values.proofs.laws.orders_have_no_cycle.Goals as goal

pub returns : goal.returns
returns c = no_cycle
