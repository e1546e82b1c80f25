use Rattle.std.proofs.Common.{◌≡◌, drop}
use Rattle.ice_emit_nets.specs.Sides.{sides}
use Rattle.ice_emit_nets.specs.Slots.{noted, cluster_slots}
use Rattle.ice_emit_nets.proofs.slots.note_clusters.Given as goal

abbrev pub invariant-loop-k : goal.invariant-loop-k
invariant-loop-k l = noted l.slots.items (sides cluster_slots l.tiles l.k (drop l.k l.clusters)) ≡ noted l.initial.slots.items (sides cluster_slots l.tiles 0 l.clusters)
