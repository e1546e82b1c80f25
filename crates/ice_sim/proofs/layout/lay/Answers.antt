use Rattle.std.proofs.Common.{arith, ◌∙◌}
use Rattle.ice_bits.specs.Configuration.{bits_of}
use Rattle.ice_sim.specs.Layouts.{layout_of}
use Rattle.ice_sim.proofs.Turns.{laid_more}
use Rattle.ice_sim.proofs.layout.lay.Goals as goal

pub loop-point-preserved : goal.loop-point-preserved
loop-point-preserved c = (
  c.lay_point.auto.slots ∙ c.loop-point.invariant.0,
  laid_more c.args.configured.now.parts (bits_of c.args.configured.now.configuration) c.args.configured.now.configuration.extras c.args.configured.now.bonded _ _ (layout_of c.loop-point.slots c.loop-point.feeds.items)
      (layout_of c.lay_point.new.slots c.lay_point.new.feeds.items) c.args.order.now c.loop-point.point-index (omega arith) c.loop-point.invariant.1 c.in_ok-lay_point.ensures,
)
