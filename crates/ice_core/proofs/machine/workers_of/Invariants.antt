use Rattle.std.proofs.Common.{◌≡◌, length}
use Rattle.std.specs.List.{AllByRecursion}
use Rattle.ice_core.specs.Program.{IsFresh}
use Rattle.ice_core.proofs.machine.workers_of.Given as goal

abbrev pub invariant-loop-worker : goal.invariant-loop-worker
invariant-loop-worker l = AllByRecursion (IsFresh l.tasks) l.all.items × (length l.all.items ≡ l._worker)
