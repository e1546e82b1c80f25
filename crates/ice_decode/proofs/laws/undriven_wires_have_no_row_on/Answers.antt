use Rattle.ice_decode.proofs.Driven.{undriven}
use Rattle.ice_decode.proofs.laws.undriven_wires_have_no_row_on.Goals as goal

pub returns : goal.returns
returns c = undriven
