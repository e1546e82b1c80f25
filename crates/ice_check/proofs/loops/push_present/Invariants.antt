use Rattle.std.proofs.Common.{◌≡◌, ◌++◌, drop}
use Rattle.ice_base_values.specs.System.{present}
use Rattle.ice_net.specs.Drivers.{numbers}
use Rattle.ice_check.proofs.loops.push_present.Given as goal

abbrev pub invariant-loop-signal : goal.invariant-loop-signal
invariant-loop-signal l = l.row.items ++ present (numbers (drop l.signal-index l.signals)) ≡ l.fn.row.items ++ present (numbers l.signals)
