use Rattle.ice_negotiate_defs.specs.Trees.{bare}
use Rattle.ice_negotiate_defs.proofs.Joining.{joined_unique}
use Rattle.ice_negotiate_defs.proofs.laws.trees_are_unique.Goals as goal

pub returns : goal.returns
returns c edges price root sinks = joined_unique edges price (bare root) sinks
