use Rattle.std.proofs.Common.{arith, ◌++◌, ap, ◌∙◌}
use Rattle.ice_base.specs.Lines.{text_of_lines}
use Rattle.ice_bits.specs.ContentViews.{content_view}
use Rattle.ice_asc.specs.Text.{content_lines}
use Rattle.ice_asc.proofs.Joining.{part_more}
use Rattle.ice_asc.proofs.write.put_contents.Goals as goal

pub loop-content-preserved : goal.loop-content-preserved
loop-content-preserved c =
    c.in_ok-put_content.ensures
    ∙ ap (λ content. c.loop-content.out.items ++ text_of_lines (content_lines (content_view content))) c.content-item.is
    ∙ part_more (λ content. content_lines (content_view content)) c.args.contents.now c.loop-content.content-index c.content-item.result c.args.out.now.items c.loop-content.out.items (omega arith)
    c.loop-content.invariant
