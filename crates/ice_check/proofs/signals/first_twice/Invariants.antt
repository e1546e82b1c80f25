use Rattle.std.proofs.Common.{◌≡◌, ◌-◌, length}
use Rattle.ice_check.specs.Faults.{first_number, is_driven_twice}
use Rattle.ice_check.proofs.signals.first_twice.Given as goal

abbrev pub invariant-loop-signal : goal.invariant-loop-signal
invariant-loop-signal l =
    first_number (is_driven_twice l.netlist) 0 (length l.netlist.names) ≡ first_number (is_driven_twice l.netlist) l.signal (length l.netlist.names - l.signal)
