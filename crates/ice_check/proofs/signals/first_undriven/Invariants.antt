use Rattle.std.proofs.Common.{◌≡◌, ◌-◌, length}
use Rattle.ice_check.specs.Faults.{first_number, is_undriven}
use Rattle.ice_check.proofs.signals.first_undriven.Given as goal

abbrev pub invariant-loop-signal : goal.invariant-loop-signal
invariant-loop-signal l =
    first_number (is_undriven l.netlist) 0 (length l.netlist.names) ≡ first_number (is_undriven l.netlist) l.signal (length l.netlist.names - l.signal)
