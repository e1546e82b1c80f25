use Rattle.std.proofs.Common.{◌∙◌, arith, refl}
use Rattle.std.proofs.lemmas.List.{take_all}
use Rattle.ice_base.proofs.Pushed.{copied_push}
use Rattle.ice_check.proofs.order.narrowed.Goals as goal

pub loop-point-preserved : goal.loop-point-preserved
loop-point-preserved c =
    copied_push c.args.points.now c.loop-point.point-index _ _ _ _ (omega arith) c.loop-point.invariant c.in_ok-push.ensures.items refl

pub returns : goal.returns
returns c = c.loop-point.invariant ∙ take_all c.loop-point.point-index c.args.points.now (omega arith)
