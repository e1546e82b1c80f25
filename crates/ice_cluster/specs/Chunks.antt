-- Where the cells of runs stand in clusters: each chunk of a run has a cluster of its own, and its cells stand there from the first slot on.
use Rattle.std.specs.Prelude.{◌≡◌, ℕ, ◌+◌, ◌*◌, ◌/◌, ◌%◌, ◌<◌, Some, List, length}
use Rattle.ice_base_values.specs.Order.{At}
use Rattle.ice_cells.specs.declared.cluster.Cluster.{Cluster}
use Rattle.ice_cells.specs.declared.cluster.Clusters.{Clusters}
use Rattle.ice_cells.specs.declared.design.Design.{Design}
use Rattle.ice_cells.specs.declared.design.Run.{Run}
use Rattle.ice_cells.specs.Clusterings.{IsClustering}
use Rattle.ice_cells.specs.Formed.{IsFormed}

-- the cluster is chunk k of run r
pub record HoldsChunk (d : Design) (cluster : Cluster) (r k : ℕ) : Type 0 where
  pub run : Run
  pub run_is : At d.runs r run
  pub some : 8 * k < length run.cells
  pub cells : (i c : ℕ) → i < 8 → At run.cells (8 * k + i) c → At cluster.cells i (Some c)

pub record AreChunks (d : Design) (clusters : List Cluster) : Type 0 where
  -- cell p of a run stands in the cluster of its chunk
  pub there : (r p c : ℕ) (run : Run) → At d.runs r run → At run.cells p c
      → (n : ℕ) × (cluster : Cluster) × At clusters n cluster × (cluster.run ≡ Some (r, p / 8)) × At cluster.cells (p % 8) (Some c)
  -- a cluster that is a chunk of a run holds it
  pub holds : (n r k : ℕ) (cluster : Cluster) → At clusters n cluster → cluster.run ≡ Some (r, k) → HoldsChunk d cluster r k

abbrev pub RunsStandInChunks : Type 0
RunsStandInChunks = (d : Design) (clusters : Clusters) → IsFormed d → IsClustering d clusters → AreChunks d clusters.list
