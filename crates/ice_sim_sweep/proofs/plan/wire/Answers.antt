use Rattle.std.proofs.Common.{arith}
use Rattle.ice_sim_sweep.proofs.Turns.{wiring_more}
use Rattle.ice_sim_sweep.proofs.plan.wire.Goals as goal

pub loop-signal-preserved : goal.loop-signal-preserved
loop-signal-preserved c =
    wiring_more c.args.netlist.now _ c.loop-signal.pads.items c.add.new.pads.items c.loop-signal.keeps.items c.add.new.keeps.items c.loop-signal.gates.items c.add.new.gates.items
    c.args.order.now c.loop-signal.signal-index c.feed-feed.result (omega arith) c.loop-signal.invariant c.feed-feed.ensures
    c.in_ok-add.ensures.pads c.in_ok-add.ensures.keeps c.in_ok-add.ensures.gates
