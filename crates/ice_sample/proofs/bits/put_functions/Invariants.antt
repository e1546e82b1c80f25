use Rattle.std.proofs.Common.{◌≡◌, ◌+◌, ◌*◌, ◌≤◌, ◌++◌}
use Rattle.ice_base.specs.Lines.{text_of_lines}
use Rattle.ice_sample.specs.Bits.{columns_of, function_rows, function_series}
use Rattle.ice_sample.proofs.bits.put_functions.Given as goal

abbrev pub invariant-loop-number : goal.invariant-loop-number
invariant-loop-number l = record {
  counted : l.bit ≡ l.first + l.size * l.number;
  few : l.bit ≤ l.first + 20 * l.number;
  written : l.text.items ≡ l.fn.text.items ++ text_of_lines (function_rows (columns_of l.kind) l.first (function_series l.title l.number l.size));
}
