use Rattle.std.proofs.Common.{◌≡◌, ◌++◌, map, take}
use Rattle.ice_base.specs.Lines.{text_of_lines}
use Rattle.ice_report.specs.RouteReport.{net_line}
use Rattle.ice_report.proofs.rounds.put_nets.Given as goal

abbrev pub invariant-loop-entry : goal.invariant-loop-entry
invariant-loop-entry l = l.text.items ≡ l.fn.text.items ++ text_of_lines (map net_line (take l.entry-index l.moved))
