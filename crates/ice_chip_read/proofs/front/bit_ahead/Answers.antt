use Rattle.ice_chip_read.proofs.BitFronts.{bit_stands}
use Rattle.ice_chip_read.proofs.front.bit_ahead.Goals as goal

pub returns : goal.returns
returns c =
    bit_stands c.args.text.now c.in_ok-front.front.now c.in_ok-row.middle.now c.in_ok-back.back.now c.in_ok-column.last.now c.in_ok-behind.behind.now c.in_ok-row.row c.in_ok-column.column
    c.in_ok-front.ensures c.in_ok-row.ensures c.in_ok-back.ensures c.in_ok-column.ensures c.in_ok-behind.ensures c.if-row-ge16.false c.if-column-ge54.false
