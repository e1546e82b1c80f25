use Rattle.std.proofs.Common.{◌≡◌, ◌++◌, map}
use Rattle.std.specs.List.{flat_map, range_with_len}
use Rattle.ice_base.specs.Lines.{text_of_lines}
use Rattle.ice_sample.specs.Wires.{named_wires, cell_name, cell_pins}
use Rattle.ice_sample.proofs.wires.put_all_cell_wires.Given as goal

abbrev pub invariant-loop-cell : goal.invariant-loop-cell
invariant-loop-cell l = l.text.items ≡ l.fn.text.items ++ text_of_lines (named_wires l.at l.first (flat_map (λ i. map (cell_name i) cell_pins) (range_with_len 0 l.cell)))
