use Rattle.std.proofs.Common.{◌≡◌, ◌-◌, length}
use Rattle.ice_net.specs.Drivers.{pin_of}
use Rattle.ice_net.specs.declared.cell.Cell.{Cell}
use Rattle.ice_check.specs.Faults.{first_number, cell_is, is_portless}
use Rattle.ice_check.proofs.cells.pin_not_port.Given as goal

abbrev pub invariant-loop-place : goal.invariant-loop-place
invariant-loop-place l =
    first_number (cell_is l.netlist (λ (cell : Cell). is_portless l.netlist.ports cell.kind (pin_of cell))) 0 (length l.netlist.cells) ≡ first_number (cell_is l.netlist (λ (cell : Cell). is_portless l.netlist.ports cell.kind (pin_of cell))) l.place (length l.netlist.cells - l.place)
