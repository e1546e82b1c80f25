use Rattle.std.proofs.Common.{◌≡◌, drop}
use Rattle.ice_cells.specs.Clusters.{all_held}
use Rattle.ice_cluster.proofs.sorting.hold.Given as goal

abbrev pub invariant-loop-c : goal.invariant-loop-c
invariant-loop-c l = all_held l.held.items (drop l.c-index l.cells) ≡ all_held l.initial.held.items l.cells
