use Rattle.ice_emit_meaning_laws.proofs.Feeding.{found_within}
use Rattle.ice_emit_meaning_laws.proofs.feeds.feed_of.Goals as goal

pub returns-in-Some-clause-below : goal.returns-in-Some-clause-below
returns-in-Some-clause-below c = found_within c.args.chip.now c.chip_is_lawful.ensures c.in-Some.tile _ c.wire_named.result c.wire_named.ensures
