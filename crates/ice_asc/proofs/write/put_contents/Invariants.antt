use Rattle.std.proofs.Common.{◌≡◌, ◌++◌, take}
use Rattle.std.specs.List.{flat_map}
use Rattle.ice_base.specs.Lines.{text_of_lines}
use Rattle.ice_bits.specs.ContentViews.{content_view}
use Rattle.ice_asc.specs.Text.{content_lines}
use Rattle.ice_asc.proofs.write.put_contents.Given as goal

abbrev pub invariant-loop-content : goal.invariant-loop-content
invariant-loop-content l = l.out.items ≡ l.fn.out.items ++ text_of_lines (flat_map (λ content. content_lines (content_view content)) (take l.content-index l.contents))
