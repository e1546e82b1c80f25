use Rattle.std.proofs.Common.{◌≡◌, ◌+◌, ◌++◌, map, take}
use Rattle.ice_base.specs.Lines.{text_of_lines}
use Rattle.ice_sample.specs.Wires.{named_wires, cell_name}
use Rattle.ice_sample.proofs.wires.put_cell_wires.Given as goal

abbrev pub invariant-loop-pin : goal.invariant-loop-pin
invariant-loop-pin l = record {
  counted : l.wire ≡ l.first + l.pin-index;
  written : l.text.items ≡ l.fn.text.items ++ text_of_lines (named_wires l.at l.first (map (λ pin. cell_name l.cell pin.now) (take l.pin-index l.pins)));
}
