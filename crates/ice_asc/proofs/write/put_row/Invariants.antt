use Rattle.std.proofs.Common.{◌≡◌, ◌++◌, option_map}
use Rattle.ice_bits.specs.Configuration.{bit_at}
use Rattle.ice_asc.specs.Text.{row_line}
use Rattle.ice_asc.proofs.write.put_row.Given as goal

abbrev pub invariant-loop-col : goal.invariant-loop-col
invariant-loop-col l = l.out.items ≡ l.fn.out.items ++ row_line (bit_at (option_map (λ rows. rows.now) l.rows)) l.col l.row
