use Rattle.ice_chip_read.specs.Views.{reading_view}
use Rattle.ice_chip_read.proofs.PlainRows.{row_taken}
use Rattle.ice_chip_read.proofs.text.take_row.Goals as goal

pub returns-clause-taken : goal.returns-clause-taken
returns-clause-taken c =
    row_taken (reading_view c.args.reading.now) (reading_view c.take_values.new.reading) c.args.number c.len.result c.args.text.now c.in_ok-digits.digits.now c.in_ok-digits.source c.in_ok-digits.behind.now
    c.in_ok-values.values.items c.take_values.result c.requires c.len.ensures.value c.in_ok-digits.ensures c.in_ok-values.ensures c.take_values.ensures
