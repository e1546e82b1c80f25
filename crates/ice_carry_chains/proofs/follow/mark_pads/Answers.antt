use Rattle.std.proofs.Common.{◌∙◌, arith}
use Rattle.ice_carry_chains.proofs.Following.{pads_more, pads_end}
use Rattle.ice_carry_chains.proofs.follow.mark_pads.Goals as goal

pub loop-pad-preserved : goal.loop-pad-preserved
loop-pad-preserved c = pads_more c.args.pads.now c.loop-pad.pad-index _ c.loop-pad.marks.items _ _ (omega arith) c.mark.ensures c.mark-in-loop-pad.ensures ∙ c.loop-pad.invariant

pub returns : goal.returns
returns c = pads_end c.args.pads.now c.loop-pad.pad-index c.loop-pad.marks.items (omega arith) ∙ c.loop-pad.invariant
