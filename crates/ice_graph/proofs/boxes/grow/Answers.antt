use Rattle.std.proofs.Common.{sym, ◌∙◌}
use Rattle.ice_graph.proofs.Growing.{box_stays}
use Rattle.ice_graph.proofs.boxes.grow.Goals as goal

pub returns-then-holds : goal.returns-then-holds
returns-then-holds c = box_stays c.args.boxes.now c.args.wire c.in-Some.extent c.args.tile c.in-Some.is (sym c.holds.ensures ∙ c.if-holds.true)
