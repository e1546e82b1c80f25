use Rattle.std.proofs.Common.{◌++◌, ◌∷◌, [], ap, ◌∙◌}
use Rattle.ice_base.specs.Lines.{text_of_lines}
use Rattle.ice_report.specs.RouteReport.{net_line}
use Rattle.ice_base.proofs.Pieces.{further, line_more}
use Rattle.ice_report.proofs.rounds.put_nets.Goals as goal

pub loop-entry-preserved : goal.loop-entry-preserved
loop-entry-preserved c =
    further _ _ _ _ _ _ c.loop-entry.invariant
    (c.in_ok-put_net.ensures ∙ ap (λ entry. c.loop-entry.text.items ++ text_of_lines (net_line entry ∷ [])) c.entry-item.is)
    (line_more net_line c.args.moved.now c.loop-entry.entry-index c.entry-item.result c.loop-entry-test.true)
