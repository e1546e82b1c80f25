use Rattle.std.proofs.Common.{◌≡◌, drop}
use Rattle.ice_sim_sweep.specs.Sweeps.{remembered}
use Rattle.ice_sim_sweep.proofs.sweeping.remember.Given as goal

abbrev pub invariant-loop-keeper : goal.invariant-loop-keeper
invariant-loop-keeper l = remembered l.keepers l.values l.fn.memories ≡ remembered (drop l.keeper-index l.keepers) l.values l.memories
