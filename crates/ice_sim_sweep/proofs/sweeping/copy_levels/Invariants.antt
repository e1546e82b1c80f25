use Rattle.std.proofs.Common.{◌≡◌, drop}
use Rattle.ice_sim_sweep.specs.Sweeps.{copied}
use Rattle.ice_sim_sweep.proofs.sweeping.copy_levels.Given as goal

abbrev pub invariant-loop-link : goal.invariant-loop-link
invariant-loop-link l = copied l.links l.levels l.fn.values ≡ copied (drop l.link-index l.links) l.levels l.values
