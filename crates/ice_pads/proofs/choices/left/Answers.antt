use Rattle.std.proofs.Common.{None, get_or, ap, ◌∙◌}
use Rattle.ice_pads.specs.Globals.{without}
use Rattle.ice_pads.proofs.FirstChoices.{left_more, all_left}
use Rattle.ice_pads.proofs.choices.left.Goals as goal

pub loop-number-preserved : goal.loop-number-preserved
loop-number-preserved c =
    left_more c.args.direct.now c.loop-number.number-index None c.loop-number.free.items _ _ c.loop-number-test.true
    (c.in_ok-free-2.ensures ∙ ap (without (get_or c.args.direct.now c.loop-number.number-index None)) c.deref.ensures.value) c.loop-number.invariant

pub returns : goal.returns
returns c = all_left c.args.direct.now c.loop-number.number-index c.loop-number.free.items _ c.loop-number-test.false c.loop-number.invariant
