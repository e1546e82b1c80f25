use Rattle.std.proofs.Common.{◌≡◌, ◌++◌, Some, None, map, take, replicate}
use Rattle.ice_cluster.proofs.clustering.slots_of.Given as goal

abbrev pub invariant-loop-c : goal.invariant-loop-c
invariant-loop-c l = l.slots.items ≡ map (λ c. Some c) (take l.c-index l.cells)

abbrev pub invariant-loop-free : goal.invariant-loop-free
invariant-loop-free l = l.slots.items ≡ map (λ c. Some c) l.cells ++ replicate l.free None
