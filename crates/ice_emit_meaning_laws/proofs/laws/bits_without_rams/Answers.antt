use Rattle.ice_emit_meaning_laws.proofs.WithoutRams.{shows_all, plain}
use Rattle.ice_emit_meaning_laws.proofs.laws.bits_without_rams.Goals as goal

pub returns-clause-shows : goal.returns-clause-shows
returns-clause-shows c = shows_all c.args.chip.now c.is_chip.ensures.read

pub returns-clause-plain : goal.returns-clause-plain
returns-clause-plain c = plain c.args.chip.now c.chip_is_lawful.ensures
