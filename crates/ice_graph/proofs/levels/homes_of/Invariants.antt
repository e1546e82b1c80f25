use Rattle.std.proofs.Common.{◌≡◌, ◌+◌, ◌<◌, ℕ, Some, length}
use Rattle.ice_graph.specs.Hops.{set_at}
use Rattle.ice_graph.specs.Levels.{Reaches}
use Rattle.ice_graph.proofs.levels.homes_of.Given as goal

abbrev pub invariant-loop-set : goal.invariant-loop-set
invariant-loop-set l = record {
  long : length l.homes.items ≡ l.set-index;
  homes : (w b : ℕ) → w < l.set-index → b < 64 → set_at l.sets w ≡ Some (l.first + b) → Reaches l.homes.items w b;
  back : (w b : ℕ) → Reaches l.homes.items w b → set_at l.sets w ≡ Some (l.first + b);
}
