use Rattle.std.proofs.Common.{◌∙◌, arith}
use Rattle.ice_carry_chains.proofs.Following.{cells_more, cells_end}
use Rattle.ice_carry_chains.proofs.follow.mark_cells.Goals as goal

pub loop-c-preserved : goal.loop-c-preserved
loop-c-preserved c = cells_more c.args.cells.now c.loop-c.c _ c.loop-c.marks.items _ (omega arith) c.mark_cell.ensures ∙ c.loop-c.invariant

pub returns : goal.returns
returns c = cells_end c.args.cells.now c.loop-c.c c.loop-c.marks.items (omega arith) ∙ c.loop-c.invariant
