use Rattle.std.proofs.Common.{◌+◌, ◌*◌, sym}
use Rattle.ice_sample.proofs.Counting.{map_range_more}
use Rattle.ice_base.proofs.Pieces.{further}
use Rattle.ice_sample.proofs.sources.add_outputs_of_cells.Goals as goal

pub loop-cell-preserved : goal.loop-cell-preserved
loop-cell-preserved c =
    further _ _ _ _ _ _ c.loop-cell.invariant c.in_ok-push.ensures.items (sym (map_range_more (λ i. c.args.first + 6 * i + 4) c.loop-cell.cell))
