use Rattle.ice_emit_meaning_laws.proofs.Feeding.{told, ringless}
use Rattle.ice_emit_meaning_laws.proofs.feeds.feeds_no_global.Goals as goal

pub returns-clause-feeds : goal.returns-clause-feeds
returns-clause-feeds c = told c.args.chip.now c.is_chip.ensures.read c.chip_is_lawful.ensures c.some_fed_below.result c.some_fed_below.ensures

pub returns-clause-ringless : goal.returns-clause-ringless
returns-clause-ringless c = ringless c.args.chip.now c.is_chip.ensures.read c.chip_is_lawful.ensures c.some_fed_below.result c.some_fed_below.ensures
