-- Settings and rows of clusters, which stand beside their tiles.
use Rattle.std.proofs.Common.{◌≡◌, List, [], ◌∷◌, ◌++◌, refl, ap, ◌∙◌}
use Rattle.ice_base.specs.declared.number.TileAt.{TileAt}
use Rattle.ice_chip.specs.Database.{Parts}
use Rattle.ice_cells.specs.declared.cell.LogicCell.{LogicCell}
use Rattle.ice_cells.specs.declared.cluster.Cluster.{Cluster}
use Rattle.ice_decode.specs.declared.driver.Switch.{Switch}
use Rattle.ice_emit_nets.specs.Sides.{sides}
use Rattle.ice_emit_nets.proofs.Siding.{sides_are}
use Rattle.ice_emit_rows_laws.specs.Settings.{Setting}
use Rattle.ice_emit_defs.specs.Functions.{clusters_settings}
use Rattle.ice_emit_defs.specs.Links.{all_links}
use Rattle.ice_emit.specs.Links.{cluster_link}
use Rattle.ice_emit.specs.Routed.{held_in, cluster_gives}
use Rattle.ice_emit.specs.declared.routed.Routed.{Routed}

abbrev all_clusters : Routed → List TileAt → List Cluster → List Setting
all_clusters routed = clusters_settings routed.placed.chip.now (held_in routed) routed.placed.design.now

pub clusters_are : (routed : Routed) (tiles : List TileAt) (clusters : List Cluster) (old new : List Setting) → new ≡ old ++ sides (cluster_gives routed) tiles 0 clusters → new ≡ old ++ all_clusters routed tiles clusters
clusters_are routed tiles clusters old new e = e ∙ ap (λ xs. old ++ xs) (sides_are (cluster_gives routed) (all_clusters routed) (λ cs. refl) right (λ t ts c cs. refl) tiles clusters)
  where
    right : (ts : List TileAt) → all_clusters routed ts [] ≡ []
    right [] = refl
    right (t ∷ ts) = refl

-- ---- the rows of clusters
pub links_are : (parts : Parts) (cells : List LogicCell) (tiles : List TileAt) (clusters : List Cluster) (old new : List Switch) → new ≡ old ++ sides (cluster_link parts cells) tiles 0 clusters → new ≡ old ++ all_links parts cells tiles clusters
links_are parts cells tiles clusters old new e = e ∙ ap (λ xs. old ++ xs) (sides_are (cluster_link parts cells) (all_links parts cells) (λ cs. refl) right (λ t ts c cs. refl) tiles clusters)
  where
    right : (ts : List TileAt) → all_links parts cells ts [] ≡ []
    right [] = refl
    right (t ∷ ts) = refl
