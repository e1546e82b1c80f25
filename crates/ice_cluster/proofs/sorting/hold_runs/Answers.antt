use Rattle.std.proofs.Common.{◌∙◌, arith}
use Rattle.ice_cluster.proofs.Opening.{hold_more}
use Rattle.ice_cluster.proofs.sorting.hold_runs.Goals as goal

pub loop-run-preserved : goal.loop-run-preserved
loop-run-preserved c =
    hold_more c.args.runs.now c.loop-run.run-index c.run-item.result c.as_slice.result.now c.loop-run.held.items c.hold.new.held.items (omega arith) c.run-item.is c.as_slice.ensures c.hold.ensures
    ∙ c.loop-run.invariant
