use Rattle.ice_negotiate_defs.proofs.Repeating.{rounds_same}
use Rattle.ice_negotiate_defs.proofs.laws.rounds_are_unique.Goals as goal

pub returns : goal.returns
returns c graph nets opening rounds others h g = rounds_same graph nets opening rounds others h g
