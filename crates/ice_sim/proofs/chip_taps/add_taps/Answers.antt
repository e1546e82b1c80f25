use Rattle.std.proofs.Common.{◌∙◌}
use Rattle.ice_bits.specs.Configuration.{bits_of}
use Rattle.ice_sim.specs.Layouts.{output_feed}
use Rattle.ice_sim.proofs.Turns.{fed_more, taps_more}
use Rattle.ice_sim.proofs.chip_taps.add_taps.Goals as goal

pub loop-pad-preserved : goal.loop-pad-preserved
loop-pad-preserved c = (
  fed_more (output_feed c.args.configured.now.parts (bits_of c.args.configured.now.configuration)) _ c.output_feed.result _ c.loop-pad.feeds.items c.push.new.self.items c.pads-pad-items.result.now
      c.loop-pad.pad-index c.loop-pad-test.true c.loop-pad.invariant.0 c.in_ok-push.ensures.items c.output_feed.ensures,
  taps_more c.args.configured.now.parts (bits_of c.args.configured.now.configuration) c.args.slots.now _ c.pad_tap.result _ c.loop-pad.taps.items c.push-in-loop-pad.new.self.items
      c.output_feed.result c.loop-pad.feeds.items c.push.new.self.items c.pads-pad-items.result.now c.loop-pad.pad-index c.in_ok-own.own c.loop-pad-test.true
      (c.in_ok-own.ensures ∙ c.len.ensures ∙ c.loop-pad.feeds.ok.0) c.loop-pad.invariant.1 c.in_ok-push.ensures.items c.in_ok-push-2.ensures.items c.pad_tap.ensures,
)
