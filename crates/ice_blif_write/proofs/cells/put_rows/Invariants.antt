use Rattle.std.proofs.Common.{◌≡◌, ◌-◌, ◌^◌, ◌++◌, map}
use Rattle.ice_base.specs.Lines.{text_of_lines}
use Rattle.ice_blif_write.specs.Text.{line_of, rows_from}
use Rattle.ice_blif_write.proofs.cells.put_rows.Given as goal

abbrev pub invariant-loop-number : goal.invariant-loop-number
invariant-loop-number l =
    l.out.items ++ text_of_lines (map line_of (rows_from l.table l.width l.number (2 ^ l.width - l.number))) ≡ l.fn.out.items ++ text_of_lines (map line_of (rows_from l.table l.width 0 (2 ^ l.width)))
