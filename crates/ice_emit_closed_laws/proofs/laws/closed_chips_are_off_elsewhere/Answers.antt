use Rattle.ice_emit_closed_laws.proofs.Elsewhere.{off_elsewhere}
use Rattle.ice_emit_closed_laws.proofs.laws.closed_chips_are_off_elsewhere.Goals as goal

pub returns : goal.returns
returns c = off_elsewhere
