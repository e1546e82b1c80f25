use Rattle.std.proofs.Common.{None, arith}
use Rattle.ice_check.proofs.TableSteps.{times_more, times_all, times_room, below_here_too}
use Rattle.ice_check.proofs.tables.times_of.Goals as goal

pub tally-requires-clause-below : goal.tally-requires-clause-below
tally-requires-clause-below c = below_here_too c.args.count c.args.list.now c.loop-place.table.items c.loop-place.place None (omega arith) c.requires c.loop-place.invariant

pub tally-requires-clause-room : goal.tally-requires-clause-room
tally-requires-clause-room c = times_room c.args.count c.args.list.now c.loop-place.table.items c.loop-place.place (omega arith) c.loop-place.invariant

pub loop-place-preserved : goal.loop-place-preserved
loop-place-preserved c =
    times_more c.args.count c.args.list.now c.loop-place.table.items c.tally.new.table.items c.loop-place.place None (omega arith) c.loop-place.invariant c.tally.ensures.length c.tally.ensures.tallied

pub returns : goal.returns
returns c = times_all c.args.count c.args.list.now _ c.loop-place.place (omega arith) c.loop-place.invariant
