use Rattle.ice_pads_tails_laws.proofs.Given.{given_same}
use Rattle.ice_pads_tails_laws.proofs.laws.pads_are_given_alike.Goals as goal

pub returns : goal.returns
returns c n parts name constraints closing pads formed room e = given_same n parts name constraints closing pads formed (c.tailed_are_formed.ensures n formed room) e
