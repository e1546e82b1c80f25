use Rattle.std.proofs.Common.{◌≡◌, drop}
use Rattle.ice_anneal_nets.specs.Holders.{noted, clusters_held}
use Rattle.ice_anneal_nets.proofs.holders.note_clusters.Given as goal

abbrev pub invariant-loop-k : goal.invariant-loop-k
invariant-loop-k l = noted l.nodes.items (clusters_held l.k (drop l.k l.clusters)) ≡ noted l.initial.nodes.items (clusters_held 0 l.clusters)
