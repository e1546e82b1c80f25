use Rattle.std.proofs.Common.{◌≡◌, ◌++◌}
use Rattle.std.specs.List.{flat_map, range_with_len}
use Rattle.ice_base.specs.Lines.{text_of_lines}
use Rattle.ice_sample.specs.Netlist.{names, output_lines}
use Rattle.ice_sample.proofs.netlist.put_outputs.Given as goal

abbrev pub invariant-loop-output : goal.invariant-loop-output
invariant-loop-output l = l.text.items ≡ l.fn.text.items ++ text_of_lines (flat_map (output_lines (names l.cells)) (range_with_len 0 l.output))
