use Rattle.std.proofs.Common.{◌≡◌, ◌++◌, take}
use Rattle.ice_base.specs.Lines.{text_of_lines}
use Rattle.ice_sample.specs.Sections.{column_buffer_lines}
use Rattle.ice_sample.proofs.sections.put_column_buffers.Given as goal

abbrev pub invariant-loop-at : goal.invariant-loop-at
invariant-loop-at l = l.text.items ≡ l.fn.text.items ++ text_of_lines (column_buffer_lines (take l.at-index l.places))
