use Rattle.std.proofs.Common.{◌≡◌, take, map}
use Rattle.ice_sim_sweep.specs.Feeds.{tap_of}
use Rattle.ice_sim_sweep.proofs.plan.taps.Given as goal

abbrev pub invariant-loop-port : goal.invariant-loop-port
invariant-loop-port l = l.taps.items ≡ map (tap_of l.netlist) (take l.port-index l.netlist.ports)
