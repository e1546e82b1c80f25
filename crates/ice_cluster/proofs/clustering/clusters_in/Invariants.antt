use Rattle.std.proofs.Common.{◌≡◌, map, take}
use Rattle.ice_cells.specs.Clusters.{with_slots}
use Rattle.ice_cluster.proofs.clustering.clusters_in.Given as goal

abbrev pub invariant-loop-group : goal.invariant-loop-group
invariant-loop-group l = l.clusters.items ≡ map with_slots (take l.group-index l.groups)
