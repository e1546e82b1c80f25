use Rattle.ice_chip_read.specs.Views.{reading_view}
use Rattle.ice_chip_read.proofs.PlainLines.{name_taken}
use Rattle.ice_chip_read.proofs.text.take_name.Goals as goal

pub returns-clause-taken : goal.returns-clause-taken
returns-clause-taken c =
    name_taken (reading_view c.args.reading.now) (reading_view c.push_name.new.reading) c.args.number c.args.wire c.args.text.now c.in_ok-at.at c.in_ok-at.name.now c.in_ok-at.behind.now c.push_name.result c.requires
    c.in_ok-at.ensures c.push_name.ensures
