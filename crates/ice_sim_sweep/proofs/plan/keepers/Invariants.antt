use Rattle.std.proofs.Common.{◌≡◌, ◌++◌, drop}
use Rattle.ice_sim_sweep.specs.Feeds.{keepers_of}
use Rattle.ice_sim_sweep.proofs.plan.keepers.Given as goal

abbrev pub invariant-loop-i : goal.invariant-loop-i
invariant-loop-i l = keepers_of l.signals 0 l.cells ≡ l.keepers.items ++ keepers_of l.signals l.i (drop l.i l.cells)
