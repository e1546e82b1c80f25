use Rattle.std.proofs.Common.{take}
use Rattle.ice_sim_sweep.specs.Plans.{IsWiring}
use Rattle.ice_sim_sweep.proofs.plan.wire.Given as goal

abbrev pub invariant-loop-signal : goal.invariant-loop-signal
invariant-loop-signal l = IsWiring l.netlist (take l.signal-index l.order) l.pads.items l.keeps.items l.gates.items
