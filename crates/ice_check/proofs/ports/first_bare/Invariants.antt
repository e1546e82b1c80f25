use Rattle.std.proofs.Common.{◌≡◌, ◌-◌, length}
use Rattle.ice_check.specs.Faults.{first_number, port_is, is_bare}
use Rattle.ice_check.proofs.ports.first_bare.Given as goal

abbrev pub invariant-loop-place : goal.invariant-loop-place
invariant-loop-place l =
    first_number (port_is l.netlist (is_bare l.netlist.cells)) 0 (length l.netlist.ports) ≡ first_number (port_is l.netlist (is_bare l.netlist.cells)) l.place (length l.netlist.ports - l.place)
