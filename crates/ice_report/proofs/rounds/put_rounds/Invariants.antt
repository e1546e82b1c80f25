use Rattle.std.proofs.Common.{◌≡◌, ◌++◌, take}
use Rattle.std.specs.List.{flat_map}
use Rattle.ice_base.specs.Lines.{text_of_lines}
use Rattle.ice_report.specs.RouteReport.{round_lines}
use Rattle.ice_report.proofs.rounds.put_rounds.Given as goal

abbrev pub invariant-loop-log : goal.invariant-loop-log
invariant-loop-log l = l.text.items ≡ l.fn.text.items ++ text_of_lines (flat_map round_lines (take l.log-index l.logs))
