use Rattle.std.proofs.Common.{◌≡◌, take}
use Rattle.ice_bits.specs.ContentViews.{contents_view}
use Rattle.ice_bits.proofs.contents.copies_of.Given as goal

abbrev pub invariant-loop-content : goal.invariant-loop-content
invariant-loop-content l = contents_view l.held.items ≡ contents_view (take l.content-index l.all)
