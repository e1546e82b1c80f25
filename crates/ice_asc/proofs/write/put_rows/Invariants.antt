use Rattle.std.proofs.Common.{◌≡◌, ◌++◌, map, option_map}
use Rattle.std.specs.List.{range_with_len}
use Rattle.ice_base.specs.Lines.{text_of_lines}
use Rattle.ice_bits.specs.Configuration.{bit_at}
use Rattle.ice_asc.specs.Text.{row_line}
use Rattle.ice_asc.proofs.write.put_rows.Given as goal

abbrev pub invariant-loop-row : goal.invariant-loop-row
invariant-loop-row l = l.out.items ≡ l.fn.out.items ++ text_of_lines (map (row_line (bit_at (option_map (λ rows. rows.now) l.rows)) l.columns) (range_with_len 0 l.row))
