use Rattle.ice_back_points.proofs.ConfiguredFacts.{named_some}
use Rattle.ice_back_points.proofs.heard.is_heard.Goals as goal

pub is_heard_at-requires-clause-wire : goal.is_heard_at-requires-clause-wire
is_heard_at-requires-clause-wire c =
    named_some c.args.chip.now c.is_chip.ensures.read c.args.pad.tile _ c.wire_named-wire.result c.wire_named-wire.ensures
