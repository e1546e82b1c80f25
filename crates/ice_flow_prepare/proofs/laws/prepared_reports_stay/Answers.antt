use Rattle.ice_flow_prepare.proofs.Composed.{reports}
use Rattle.ice_flow_prepare.proofs.laws.prepared_reports_stay.Goals as goal

pub returns : goal.returns
returns c parts n outer bonded pads formed = reports parts n outer bonded pads formed
