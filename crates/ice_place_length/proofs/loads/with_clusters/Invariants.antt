use Rattle.std.proofs.Common.{◌≡◌, drop}
use Rattle.ice_place_defs.specs.Loads.{clusters_give, cell_loads, control_loads}
use Rattle.ice_place_length.specs.Grown.{box_in, grown}
use Rattle.ice_place_length.proofs.loads.with_clusters.Given as goal

abbrev pub invariant-loop-k : goal.invariant-loop-k
invariant-loop-k l = grown l.root (box_in l.wide) (clusters_give cell_loads control_loads l.cells (drop l.k l.tiles) (drop l.k l.clusters)) ≡ grown l.root (box_in l.fn.span) (clusters_give cell_loads control_loads l.cells l.tiles l.clusters)
