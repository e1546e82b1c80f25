use Rattle.std.proofs.Common.{◌≡◌, take, map}
use Rattle.ice_sim_sweep.specs.Sweeps.{tap_drive}
use Rattle.ice_sim_sweep.proofs.sweeping.show.Given as goal

abbrev pub invariant-loop-k : goal.invariant-loop-k
invariant-loop-k l = take l.k l.out ≡ map (tap_drive l.values) (take l.k l.taps)
