use Rattle.std.proofs.Common.{None, arith}
use Rattle.ice_check.proofs.TableSteps.{places_none, places_more, places_all, below_here}
use Rattle.ice_check.proofs.tables.places.Goals as goal

pub loop-place-init : goal.loop-place-init
loop-place-init c = places_none c.args.count c.args.list.now _ c.in_ok-table.ensures.long c.in_ok-table.ensures.blank

pub settle-requires : goal.settle-requires
settle-requires c = below_here c.args.count c.args.list.now c.loop-place.table.items c.loop-place.place None (omega arith) c.requires c.loop-place.invariant

pub loop-place-preserved : goal.loop-place-preserved
loop-place-preserved c =
    places_more c.args.count c.args.list.now c.loop-place.table.items c.settle.new.table.items c.loop-place.place None (omega arith) c.loop-place.invariant c.settle.ensures.length c.settle.ensures.settled

pub returns : goal.returns
returns c = places_all c.args.count c.args.list.now _ c.loop-place.place (omega arith) c.loop-place.invariant
