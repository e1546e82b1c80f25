use Rattle.std.proofs.Common.{◌≡◌, ◌+◌, ◌++◌, map, take}
use Rattle.ice_base.specs.Lines.{text_of_lines}
use Rattle.ice_sample.specs.Wires.{named_wires}
use Rattle.ice_sample.proofs.wires.put_named_wires.Given as goal

abbrev pub invariant-loop-name : goal.invariant-loop-name
invariant-loop-name l = record {
  counted : l.wire ≡ l.first + l.name-index;
  written : l.text.items ≡ l.fn.text.items ++ text_of_lines (named_wires l.at l.first (map (λ name. name.now) (take l.name-index l.names)));
}
