use Rattle.std.proofs.Common.{◌≡◌, ◌++◌, map}
use Rattle.std.specs.List.{range_with_len}
use Rattle.ice_base.specs.Lines.{text_of_lines}
use Rattle.ice_asc.specs.Hex.{row_digits}
use Rattle.ice_asc.proofs.write.put_words.Given as goal

abbrev pub invariant-loop-row : goal.invariant-loop-row
invariant-loop-row l = l.out.items ≡ l.fn.out.items ++ text_of_lines (map (row_digits l.words) (range_with_len 0 l.row))
