use Rattle.std.proofs.Common.{◌++◌, ap, ◌∙◌}
use Rattle.ice_base.specs.Lines.{text_of_lines}
use Rattle.ice_report.specs.RouteReport.{round_lines}
use Rattle.ice_base.proofs.Pieces.{further, lines_more}
use Rattle.ice_report.proofs.rounds.put_rounds.Goals as goal

pub loop-log-preserved : goal.loop-log-preserved
loop-log-preserved c =
    further _ _ _ _ _ _ c.loop-log.invariant
    (c.in_ok-put_round.ensures ∙ ap (λ log. c.loop-log.text.items ++ text_of_lines (round_lines log)) c.log-item.is)
    (lines_more round_lines c.args.logs.now c.loop-log.log-index c.log-item.result c.loop-log-test.true)
