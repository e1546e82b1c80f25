use Rattle.std.proofs.Common.{◌≡◌, map, take}
use Rattle.ice_check.specs.Faults.{shown_of}
use Rattle.ice_check.proofs.signals.shown_at.Given as goal

abbrev pub invariant-loop-port : goal.invariant-loop-port
invariant-loop-port l = l.shown.items ≡ map (shown_of l.netlist.cells) (take l.port-index l.netlist.ports)
