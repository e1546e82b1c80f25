use Rattle.std.proofs.Common.{◌≡◌, ◌++◌, map, take, codes}
use Rattle.ice_base.specs.Lines.{text_of_lines}
use Rattle.ice_report.specs.RouteReport.{wire_line}
use Rattle.ice_report.proofs.rounds.put_overused.Given as goal

abbrev pub invariant-loop-entry : goal.invariant-loop-entry
invariant-loop-entry l = l.text.items ≡ l.fn.text.items ++ text_of_lines (map (wire_line (codes "over")) (take l.entry-index l.over))
