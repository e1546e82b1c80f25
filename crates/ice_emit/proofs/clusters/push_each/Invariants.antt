use Rattle.std.proofs.Common.{◌≡◌, ◌++◌, drop}
use Rattle.ice_emit_nets.specs.Sides.{sides}
use Rattle.ice_emit.specs.Routed.{cluster_gives}
use Rattle.ice_emit_settings.specs.Views.{views}
use Rattle.ice_emit.proofs.clusters.push_each.Given as goal

abbrev pub invariant-loop-k : goal.invariant-loop-k
invariant-loop-k l = views l.made.items ++ sides (cluster_gives l.fn.routed) l.tiles l.k (drop l.k l.clusters) ≡ views l.initial.made.items ++ sides (cluster_gives l.fn.routed) l.tiles 0 l.clusters
