use Rattle.std.proofs.Common.{◌∙◌, length, arith}
use Rattle.ice_carry_chains.proofs.Feeding.{feeds_more, feeds_end, fed_more, fed_end}
use Rattle.ice_carry_chains.proofs.feed.push_feeds.Goals as goal

pub loop-c-preserved : goal.loop-c-preserved
loop-c-preserved c = (
  feeds_more c.args.marks.now c.args.heads.now c.loop-c.c-index _ c.loop-c.cells.items _ (omega arith) c.in_ok-fed.ensures.cells ∙ c.loop-c.invariant.0,
  fed_more c.args.marks.now c.args.heads.now c.loop-c.c-index _ c.loop-c.cells.items _ c.loop-c.all.items _ c.in_ok-fed.fed (omega arith) c.in_ok-fed.ensures.cells c.in_ok-fed.ensures.fed c.in_ok-keep.ensures
      ∙ c.loop-c.invariant.1,
)

pub returns-clause-cells : goal.returns-clause-cells
returns-clause-cells c = feeds_end c.args.marks.now c.args.heads.now c.loop-c.c-index c.loop-c.cells.items (omega arith) ∙ c.loop-c.invariant.0

pub returns-clause-fed : goal.returns-clause-fed
returns-clause-fed c = fed_end c.args.marks.now c.args.heads.now c.loop-c.c-index (length c.loop-c.cells.items) c.loop-c.all.items (omega arith) ∙ c.loop-c.invariant.1
