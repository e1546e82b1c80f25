use Rattle.std.proofs.Common.{◌≡◌, take}
use Rattle.ice_place.specs.Place.{chunks_of}
use Rattle.ice_anneal.proofs.free.chunks_of.Given as goal

abbrev pub invariant-loop-cluster : goal.invariant-loop-cluster
invariant-loop-cluster l = l.chunks.items ≡ chunks_of (take l.cluster-index l.clusters)
