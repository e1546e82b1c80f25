use Rattle.std.proofs.Common.{◌≡◌}
use Rattle.std.specs.List.{filter_map, range_with_len}
use Rattle.ice_cells.specs.Clusters.{flop_at, plain_at}
use Rattle.ice_cluster.proofs.sorting.sort_cells.Given as goal

abbrev pub invariant-loop-c : goal.invariant-loop-c
invariant-loop-c l = (l.flops.items ≡ filter_map (flop_at l.held l.cells) (range_with_len 0 l.c)) × (l.plains.items ≡ filter_map (plain_at l.held l.cells) (range_with_len 0 l.c))
