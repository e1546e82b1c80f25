use Rattle.std.proofs.Common.{◌≡◌, ◌++◌, take}
use Rattle.ice_base.specs.Lines.{text_of_lines}
use Rattle.ice_sample.specs.Sections.{input_enable_lines}
use Rattle.ice_sample.proofs.sections.put_input_enables.Given as goal

abbrev pub invariant-loop-pad : goal.invariant-loop-pad
invariant-loop-pad l = l.text.items ≡ l.fn.text.items ++ text_of_lines (input_enable_lines (take l.pad-index l.pads))
