use Rattle.std.proofs.Common.{[]}
use Rattle.ice_pads_promote_laws.proofs.Given.{given_same}
use Rattle.ice_pads_promote_laws.proofs.laws.pads_are_given_alike.Goals as goal

pub returns : goal.returns
returns c n outer free parts name constraints closing pads formed few beside is =
    given_same n outer free parts name constraints closing pads formed (c.promoted_are_formed.ensures n [] free formed few) (c.promoted_are_formed.ensures n outer free formed few) beside is
