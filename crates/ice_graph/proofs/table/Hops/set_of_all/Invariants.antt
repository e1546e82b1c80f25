use Rattle.std.proofs.Common.{◌≡◌, ◌<◌, ℕ, Some, slice_get}
use Rattle.ice_base.specs.declared.number.WireNo.{WireNo as Wire}
use Rattle.ice_graph.specs.Hops.{set_at}
use Rattle.ice_graph.proofs.table.Hops.set_of_all.Given as goal

abbrev pub invariant-loop-target : goal.invariant-loop-target
invariant-loop-target l = (k : ℕ) (t : Wire) → k < l.target-index → slice_get l.targets k ≡ Some t → set_at l.self.sets.items t.0 ≡ Some l.set
