use Rattle.ice_flow_prepare.proofs.Composed.{pins}
use Rattle.ice_flow_prepare.proofs.laws.prepared_pins_stay.Goals as goal

pub returns : goal.returns
returns c parts n outer name constraints closing d formed = pins parts n outer name constraints closing d formed
