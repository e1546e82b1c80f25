use Rattle.ice_flow_globals.proofs.Assigned.{same_report}
use Rattle.ice_flow_globals.proofs.laws.pin_reports_stay.Goals as goal

pub returns : goal.returns
returns c n outer free bonded pads formed = same_report n outer free bonded pads formed
