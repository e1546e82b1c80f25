use Rattle.ice_flow_prepare.proofs.Composed.{given}
use Rattle.ice_flow_prepare.proofs.laws.prepared_are_given_alike.Goals as goal

pub returns : goal.returns
returns c parts n outer name constraints closing pads formed room e =
    given c.promoted_are_formed.ensures c.pads_are_given_alike.ensures c.pads_are_given_alike-2.ensures parts n outer name constraints closing pads formed room e
