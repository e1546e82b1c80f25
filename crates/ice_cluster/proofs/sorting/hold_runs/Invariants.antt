use Rattle.std.proofs.Common.{◌≡◌, drop}
use Rattle.std.specs.List.{flat_map}
use Rattle.ice_cells.specs.Clusters.{all_held, run_cells}
use Rattle.ice_cluster.proofs.sorting.hold_runs.Given as goal

abbrev pub invariant-loop-run : goal.invariant-loop-run
invariant-loop-run l = all_held l.held.items (flat_map run_cells (drop l.run-index l.runs)) ≡ all_held l.initial.held.items (flat_map run_cells l.runs)
