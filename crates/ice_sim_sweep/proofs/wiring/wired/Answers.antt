use Rattle.std.proofs.Common.{arith}
use Rattle.ice_sim_sweep.specs.Feeds.{port_in, kept_in}
use Rattle.ice_sim_sweep.proofs.Turns.{links_joined, gates_joined}
use Rattle.ice_sim_sweep.proofs.wiring.wired.Goals as goal

pub loop-slot-preserved : goal.loop-slot-preserved
loop-slot-preserved c = (
  links_joined port_in _ _ c.loop-slot.pads.items c.add.new.pads.items c.args.feeds.now c.loop-slot.slot (omega arith) c.loop-slot.invariant.0 c.in_ok-add.ensures.pads,
  links_joined kept_in _ _ c.loop-slot.keeps.items c.add.new.keeps.items c.args.feeds.now c.loop-slot.slot (omega arith) c.loop-slot.invariant.1 c.in_ok-add.ensures.keeps,
  gates_joined _ _ c.loop-slot.gates.items c.add.new.gates.items c.args.feeds.now c.loop-slot.slot (omega arith) c.loop-slot.invariant.2 c.in_ok-add.ensures.gates,
)
