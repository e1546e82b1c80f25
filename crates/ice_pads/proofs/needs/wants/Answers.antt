use Rattle.std.proofs.Common.{map, ap, ◌∙◌}
use Rattle.ice_pads.specs.Wants.{want_at}
use Rattle.ice_base.proofs.Pushed.{mapped_push, mapped_all}
use Rattle.ice_pads.proofs.needs.wants.Goals as goal

pub loop-pad-preserved : goal.loop-pad-preserved
loop-pad-preserved c =
    mapped_push want_at c.pads-pad-items.result.now c.loop-pad.pad-index _ _ c.loop-pad.found.items _ c.loop-pad-test.true c.loop-pad.invariant
    c.in_ok-push.ensures.items c.want_at.ensures

pub returns : goal.returns
returns c =
    mapped_all want_at c.pads-pad-items.result.now c.loop-pad.pad-index c.loop-pad.found.items c.loop-pad-test.false c.loop-pad.invariant
    ∙ ap (map want_at) c.pads-pad-items.ensures
