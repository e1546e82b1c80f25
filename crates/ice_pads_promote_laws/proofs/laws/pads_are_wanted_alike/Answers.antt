use Rattle.std.proofs.Common.{[]}
use Rattle.ice_pads_promote_laws.proofs.Wanted.{wants_same}
use Rattle.ice_pads_promote_laws.proofs.laws.pads_are_wanted_alike.Goals as goal

pub returns : goal.returns
returns c n outer free formed few = wants_same n outer free formed (c.promoted_are_formed.ensures n [] free formed few) (c.promoted_are_formed.ensures n outer free formed few)
