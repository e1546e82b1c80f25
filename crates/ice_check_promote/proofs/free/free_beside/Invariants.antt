use Rattle.std.proofs.Common.{◌≡◌, ◌-◌, take}
use Rattle.std.specs.List.{count_by}
use Rattle.ice_net.specs.declared.cell.Cell.{Cell}
use Rattle.ice_check_promote.specs.Free.{is_buffer}
use Rattle.ice_check_promote.proofs.free.free_beside.Given as goal

abbrev pub invariant-loop-cell : goal.invariant-loop-cell
invariant-loop-cell l = l.free ≡ l.globals - count_by (λ (cell : Cell). is_buffer cell.kind) (take l.cell-index l.netlist.cells)
