use Rattle.std.proofs.Common.{◌≡◌, ◌<◌, ◌+◌, ◌-◌, ◌^◌, ◌++◌, map, arith}
use Rattle.ice_base.specs.Lines.{text_of_lines}
use Rattle.ice_blif_write.specs.Text.{line_of, rows_from}
use Rattle.ice_blif_write.proofs.Joining.{entry_put}
use Rattle.ice_blif_write.proofs.cells.put_rows.Goals as goal

pub loop-number-preserved : goal.loop-number-preserved
loop-number-preserved c =
    let end = c.numbers-number-end.ensures.value in
    let some : 0 < 2 ^ c.args.width - c.loop-number.number = (let lt = c.loop-number-test.true in omega (arith, end)) in
    let less : 2 ^ c.args.width - (c.loop-number.number + 1) ≡ 2 ^ c.args.width - c.loop-number.number - 1 = omega arith in
    entry_put (c.args.out.now.items ++ text_of_lines (map line_of (rows_from c.args.table c.args.width 0 (2 ^ c.args.width)))) c.loop-number.out.items c.put_entry.new.out.items c.args.table c.args.width c.loop-number.number
    (2 ^ c.args.width - c.loop-number.number) (2 ^ c.args.width - (c.loop-number.number + 1)) some less c.in_ok-put_entry.ensures c.loop-number.invariant
