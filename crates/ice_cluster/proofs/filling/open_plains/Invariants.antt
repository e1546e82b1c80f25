use Rattle.std.proofs.Common.{◌≡◌, ◌++◌, map}
use Rattle.std.specs.List.{range_with_len}
use Rattle.ice_cells.specs.Clusters.{plain_piece}
use Rattle.ice_cluster.proofs.filling.open_plains.Given as goal

abbrev pub invariant-loop-k : goal.invariant-loop-k
invariant-loop-k l = l.groups.items ≡ l.initial.groups.items ++ map (plain_piece l.plains) (range_with_len 0 l.k)
