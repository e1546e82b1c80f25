use Rattle.std.proofs.Common.{◌≡◌, ◌++◌, drop}
use Rattle.ice_emit_nets.specs.Given.{cluster_ends}
use Rattle.ice_emit_nets.specs.Sides.{sides}
use Rattle.ice_emit_nets.proofs.clusters.push_clusters.Given as goal

abbrev pub invariant-loop-k : goal.invariant-loop-k
invariant-loop-k l =
    l.ends.items ++ sides (cluster_ends l.chip l.cells) l.tiles l.k (drop l.k l.clusters) ≡ l.initial.ends.items ++ sides (cluster_ends l.chip l.cells) l.tiles 0 l.clusters
