use Rattle.ice_flow_globals.proofs.Assigned.{same_pins}
use Rattle.ice_flow_globals.proofs.laws.pins_stay.Goals as goal

pub returns : goal.returns
returns c n outer free parts name constraints closing d formed = same_pins n outer free parts name constraints closing d formed
