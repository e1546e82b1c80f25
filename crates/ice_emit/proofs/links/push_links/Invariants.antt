use Rattle.std.proofs.Common.{◌≡◌, ◌++◌, drop}
use Rattle.ice_emit_nets.specs.Sides.{sides}
use Rattle.ice_emit.specs.Links.{cluster_link}
use Rattle.ice_emit_settings.specs.Views.{switches}
use Rattle.ice_emit.proofs.links.push_links.Given as goal

abbrev pub invariant-loop-k : goal.invariant-loop-k
invariant-loop-k l =
    switches l.fn.index.chip.now l.rows.items ++ sides (cluster_link l.fn.index.chip.now l.cells) l.tiles l.k (drop l.k l.clusters) ≡ switches l.fn.index.chip.now l.initial.rows.items ++ sides (cluster_link l.fn.index.chip.now l.cells) l.tiles 0 l.clusters
