use Rattle.std.proofs.Common.{◌≡◌, take}
use Rattle.ice_check.specs.Refusals.{names_of}
use Rattle.ice_check.proofs.naming.names_of.Given as goal

abbrev pub invariant-loop-signal : goal.invariant-loop-signal
invariant-loop-signal l = l.names.items ≡ names_of l.netlist (take l.signal-index l.signals)
