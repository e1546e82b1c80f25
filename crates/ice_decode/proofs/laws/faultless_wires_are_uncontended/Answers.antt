use Rattle.ice_decode.proofs.Driven.{uncontended}
use Rattle.ice_decode.proofs.laws.faultless_wires_are_uncontended.Goals as goal

pub returns : goal.returns
returns c = uncontended
