use Rattle.std.proofs.Common.{◌≡◌, drop}
use Rattle.ice_sim_sweep.specs.Sweeps.{copied, kept_levels}
use Rattle.ice_sim_sweep.proofs.sweeping.copy_kept.Given as goal

abbrev pub invariant-loop-link : goal.invariant-loop-link
invariant-loop-link l = copied l.links (kept_levels l.memories) l.fn.values ≡ copied (drop l.link-index l.links) (kept_levels l.memories) l.values
