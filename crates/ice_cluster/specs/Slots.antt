-- Which cells stand in the slots of clusters.
use Rattle.std.specs.Prelude.{◌≡◌, ℕ, ◌<◌, Some, length}
use Rattle.ice_base_values.specs.Order.{At}
use Rattle.ice_cells.specs.declared.cell.Control.{Control}
use Rattle.ice_cells.specs.declared.cluster.Cluster.{Cluster}
use Rattle.ice_cells.specs.declared.cluster.Clusters.{Clusters}
use Rattle.ice_cells.specs.declared.design.Design.{Design}
use Rattle.ice_cells.specs.Clusterings.{IsClustering}
use Rattle.ice_cells.specs.Formed.{IsFormed}
use Rattle.ice_cells.specs.Pieces.{control_at}

-- slot i of cluster k has the cell c
pub record StandsInSlot (clusters : Clusters) (k i c : ℕ) : Type 0 where
  pub cluster : Cluster
  pub at : At clusters.list k cluster
  pub slot : At cluster.cells i (Some c)

-- each cluster has eight slots, and each cell of the design stands in exactly one
pub record AreSlots (d : Design) (clusters : Clusters) : Type 0 where
  pub eight : (k : ℕ) (cluster : Cluster) → At clusters.list k cluster → length cluster.cells ≡ 8
  pub there : (c : ℕ) → c < length d.cells → (k : ℕ) × (i : ℕ) × StandsInSlot clusters k i c
  pub within : (k i c : ℕ) → StandsInSlot clusters k i c → c < length d.cells
  pub once : (c k i m j : ℕ) → StandsInSlot clusters k i c → StandsInSlot clusters m j c → (k ≡ m) × (i ≡ j)

-- all flip-flops of a cluster are driven as it says
abbrev pub AreDriven : Design → Clusters → Type 0
AreDriven d clusters =
    (k i c : ℕ) (cluster : Cluster) (control : Control) → At clusters.list k cluster → At cluster.cells i (Some c) → control_at d.cells c ≡ Some control
    → cluster.control ≡ Some control

-- ---- the laws
abbrev pub CellsStandInOneSlot : Type 0
CellsStandInOneSlot = (d : Design) (clusters : Clusters) → IsFormed d → IsClustering d clusters → AreSlots d clusters

abbrev pub FlopsAreDrivenAsTheirCluster : Type 0
FlopsAreDrivenAsTheirCluster = (d : Design) (clusters : Clusters) → IsFormed d → IsClustering d clusters → AreDriven d clusters
