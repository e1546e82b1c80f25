use Rattle.std.proofs.Common.{codes}
use Rattle.ice_base.proofs.Pieces.{further, line_more}
use Rattle.ice_report.specs.RouteReport.{wire_line}
use Rattle.ice_report.proofs.rounds.put_histories.Goals as goal

pub loop-entry-preserved : goal.loop-entry-preserved
loop-entry-preserved c =
    further _ _ _ _ _ _ c.loop-entry.invariant c.in_ok-put_history.ensures (line_more (wire_line (codes "history")) c.args.history.now c.loop-entry.entry-index _ c.loop-entry-test.true)
