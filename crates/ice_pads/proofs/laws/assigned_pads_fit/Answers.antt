use Rattle.ice_pads.proofs.AssignLaws.{pads_fit}
use Rattle.ice_pads.proofs.laws.assigned_pads_fit.Goals as goal

pub returns : goal.returns
returns c parts name constraints n closing d rows pads chip found e = pads_fit parts name constraints n closing d rows pads chip found e
