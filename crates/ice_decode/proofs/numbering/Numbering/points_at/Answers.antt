use Rattle.std.proofs.Common.{map, get_or, Some, ap, ◌∙◌}
use Rattle.ice_decode.specs.declared.point.Point.{Point}
use Rattle.ice_decode.proofs.Numbered.{point_more}
use Rattle.ice_decode.proofs.numbering.Numbering.points_at.Goals as goal

pub loop-number-preserved : goal.loop-number-preserved
loop-number-preserved c =
    ap (map (λ (p : Point). Some p)) c.in_ok-push.ensures.items
    ∙ point_more c.args.self.now c.args.numbers.now c.loop-number.points.items c.loop-number.number-index 0 c.index.result.now c.loop-number.invariant c.loop-number-test.true
    (c.requires c.loop-number.number-index 0 c.loop-number-test.true)
    (c.index.ensures ∙ ap (λ points. get_or points (get_or c.args.numbers.now c.loop-number.number-index 0) c.index.result.now) c.self.view_is)
