use Rattle.std.proofs.Common.{◌≡◌, ◌++◌}
use Rattle.std.specs.List.{flat_map, range_with_len}
use Rattle.ice_base.specs.Lines.{text_of_lines}
use Rattle.ice_sample.specs.Wires.{global_wire_lines}
use Rattle.ice_sample.proofs.wires.put_global_wires.Given as goal

abbrev pub invariant-loop-global : goal.invariant-loop-global
invariant-loop-global l = l.text.items ≡ l.fn.text.items ++ text_of_lines (flat_map (global_wire_lines l.tiles) (range_with_len 0 l.global))
