use Rattle.ice_emit_closed_laws.proofs.Closing.{shows_the_same}
use Rattle.ice_emit_closed_laws.proofs.laws.closed_chips_show_the_same.Goals as goal

pub returns : goal.returns
returns c = shows_the_same c.args.chip.now c.is_chip.ensures.read
