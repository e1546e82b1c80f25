use Rattle.std.proofs.Common.{◌≡◌, ◌<◌, ℕ, Some, List, slice_get}
use Rattle.ice_graph.specs.Levels.{Reaches, lists_of}
use Rattle.ice_graph.proofs.levels.first_level.Given as goal

abbrev pub invariant-loop-place : goal.invariant-loop-place
invariant-loop-place l = (k : ℕ) (level : List ℕ) → k < l.place → slice_get (lists_of l.levels) k ≡ Some level → Reaches level l.wire l.bit → ⊥
