use Rattle.std.proofs.Common.{None}
use Rattle.std.proofs.lemmas.List.Elements.{All-replicate}
use Rattle.ice_net.specs.Formed.{IsBelow}
use Rattle.ice_blif.proofs.wiring.Wiring.new.Goals as goal

pub returns-clause-below : goal.returns-clause-below
returns-clause-below c = All-replicate (IsBelow 0) 76 None tt
