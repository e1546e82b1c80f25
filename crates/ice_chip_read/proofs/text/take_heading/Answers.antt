use Rattle.ice_chip_read.specs.Views.{reading_view}
use Rattle.ice_chip_read.proofs.PlainLines.{group_taken, net_taken}
use Rattle.ice_chip_read.proofs.text.take_heading.Goals as goal

pub returns-in-Some-clause-taken : goal.returns-in-Some-clause-taken
returns-in-Some-clause-taken c =
    net_taken (reading_view c.args.reading.now) (reading_view c.take_net.new.reading) c.args.number c.args.text.now c.in-Some.wire c.in-Some.behind.now c.take_net.result c.in-Some.ensures c.take_net.ensures

pub returns-clause-taken : goal.returns-clause-taken
returns-clause-taken c =
    group_taken (reading_view c.args.reading.now) (reading_view c.take_group.new.reading) c.args.number c.args.text.now c.in_ok-numbers.numbers c.in_ok-numbers.bits.items c.in_ok-numbers.behind.now c.take_group.result
    c.in_ok-numbers.ensures c.take_group.ensures
