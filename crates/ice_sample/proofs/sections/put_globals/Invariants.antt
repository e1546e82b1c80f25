use Rattle.std.proofs.Common.{◌≡◌, ◌+◌, ◌≤◌, ◌++◌, take, length}
use Rattle.ice_base.specs.Lines.{text_of_lines}
use Rattle.ice_sample.specs.Sections.{global_rows}
use Rattle.ice_sample.proofs.sections.put_globals.Given as goal

abbrev pub invariant-loop-at : goal.invariant-loop-at
invariant-loop-at l = record {
  counted : l.global ≡ 0 + l.at-index;
  few : length l.at-items ≤ 8;
  written : l.text.items ≡ l.fn.text.items ++ text_of_lines (global_rows (take l.at-index l.at-items));
}
