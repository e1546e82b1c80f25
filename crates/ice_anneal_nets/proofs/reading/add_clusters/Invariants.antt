use Rattle.std.proofs.Common.{◌≡◌, ◌++◌, drop}
use Rattle.ice_anneal_nets.specs.Reads.{clusters_reads}
use Rattle.ice_anneal_nets.proofs.reading.add_clusters.Given as goal

abbrev pub invariant-loop-k : goal.invariant-loop-k
invariant-loop-k l = l.reads.items ++ clusters_reads l.cells l.k (drop l.k l.clusters) ≡ l.fn.reads.items ++ clusters_reads l.cells 0 l.clusters
