use Rattle.std.proofs.Common.{◌≡◌, ◌+◌, ◌*◌, ◌≤◌, length, All}
use Rattle.std.specs.Vec.Iter.{into_iter_items, into_iter_len}
use Rattle.ice_blif.specs.Cells.{IsReadCell}
use Rattle.ice_blif.specs.FewSignals.{apart_says}
use Rattle.ice_blif.proofs.registers.add_all.Given as goal

abbrev pub invariant-loop-cell : goal.invariant-loop-cell
invariant-loop-cell l = record {
  said : apart_says l.initial.netlist l.fn.cells.items ≡ apart_says l.netlist (into_iter_items l.cell-iterator);
  long : into_iter_len l.cell-iterator ≡ length (into_iter_items l.cell-iterator);
  few : length l.netlist.cells + 3 * length (into_iter_items l.cell-iterator) ≤ 3145728;
  read : All (IsReadCell (length l.netlist.names)) (into_iter_items l.cell-iterator);
}
