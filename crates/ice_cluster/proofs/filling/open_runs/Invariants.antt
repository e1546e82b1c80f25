use Rattle.std.proofs.Common.{◌≡◌, drop}
use Rattle.ice_cells.specs.Clusters.{ends, runs_pieces}
use Rattle.ice_cluster.proofs.filling.open_runs.Given as goal

abbrev pub invariant-loop-r : goal.invariant-loop-r
invariant-loop-r l = ends (runs_pieces l.cells l.r (drop l.r l.runs)) l.rest l.groups.items ≡ ends (runs_pieces l.cells 0 l.runs) l.plains l.initial.groups.items
