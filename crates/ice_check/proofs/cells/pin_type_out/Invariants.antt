use Rattle.std.proofs.Common.{◌≡◌, ◌-◌, length}
use Rattle.ice_net.specs.declared.cell.Cell.{Cell}
use Rattle.ice_check.specs.Faults.{first_number, cell_is, is_type_out}
use Rattle.ice_check.proofs.cells.pin_type_out.Given as goal

abbrev pub invariant-loop-place : goal.invariant-loop-place
invariant-loop-place l =
    first_number (cell_is l.netlist (λ (cell : Cell). is_type_out cell.kind)) 0 (length l.netlist.cells) ≡ first_number (cell_is l.netlist (λ (cell : Cell). is_type_out cell.kind)) l.place (length l.netlist.cells - l.place)
