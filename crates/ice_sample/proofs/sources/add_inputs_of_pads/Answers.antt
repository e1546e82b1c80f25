use Rattle.std.proofs.Common.{◌+◌, ◌*◌, sym}
use Rattle.ice_sample.proofs.Counting.{map_range_more}
use Rattle.ice_base.proofs.Pieces.{further}
use Rattle.ice_sample.proofs.sources.add_inputs_of_pads.Goals as goal

pub loop-pad-preserved : goal.loop-pad-preserved
loop-pad-preserved c =
    further _ _ _ _ _ _ c.loop-pad.invariant c.in_ok-push.ensures.items (sym (map_range_more (λ p. c.args.first + 3 * p) c.loop-pad.pad))
