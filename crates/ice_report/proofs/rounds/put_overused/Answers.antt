use Rattle.std.proofs.Common.{codes}
use Rattle.ice_base.proofs.Pieces.{further, line_more}
use Rattle.ice_report.specs.RouteReport.{wire_line}
use Rattle.ice_report.proofs.rounds.put_overused.Goals as goal

pub loop-entry-preserved : goal.loop-entry-preserved
loop-entry-preserved c =
    further _ _ _ _ _ _ c.loop-entry.invariant c.in_ok-put_over.ensures (line_more (wire_line (codes "over")) c.args.over.now c.loop-entry.entry-index _ c.loop-entry-test.true)
