use Rattle.std.proofs.Common.{◌≡◌, ◌+◌, ◌++◌, take}
use Rattle.ice_base.specs.Lines.{text_of_lines}
use Rattle.ice_sample.specs.Sections.{pin_lines}
use Rattle.ice_sample.proofs.sections.put_pins.Given as goal

abbrev pub invariant-loop-pad : goal.invariant-loop-pad
invariant-loop-pad l = record {
  counted : l.pin ≡ 1 + l.pad-index;
  written : l.text.items ≡ l.fn.text.items ++ text_of_lines (pin_lines (take l.pad-index l.pads));
}
