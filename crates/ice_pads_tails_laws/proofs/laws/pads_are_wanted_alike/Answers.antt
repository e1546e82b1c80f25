use Rattle.ice_pads_tails_laws.proofs.Wanted.{wants_same}
use Rattle.ice_pads_tails_laws.proofs.laws.pads_are_wanted_alike.Goals as goal

pub returns : goal.returns
returns c n formed room = wants_same n formed (c.tailed_are_formed.ensures n formed room)
