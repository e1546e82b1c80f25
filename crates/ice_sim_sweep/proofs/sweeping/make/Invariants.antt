use Rattle.std.proofs.Common.{◌≡◌, drop}
use Rattle.ice_sim_sweep.specs.Sweeps.{made}
use Rattle.ice_sim_sweep.proofs.sweeping.make.Given as goal

abbrev pub invariant-loop-gate : goal.invariant-loop-gate
invariant-loop-gate l = made l.gates l.fn.values ≡ made (drop l.gate-index l.gates) l.values
