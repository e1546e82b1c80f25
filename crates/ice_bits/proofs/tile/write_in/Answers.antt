use Rattle.ice_bits.proofs.RowWrites.{one_written}
use Rattle.ice_bits.proofs.tile.write_in.Goals as goal

pub returns-then-at-rows : goal.returns-then-at-rows
returns-then-at-rows c =
    one_written c.args.rows.now c.args.bit c.args.value c.from-at.result c.from.result c.index-rows-at.result c.write_in_row.new.row
    c.from-at.ensures c.from.ensures c.if-at-rows.true c.write_in_row.ensures
