-- Clusters of cells in different orders.
use Rattle.std.specs.Prelude.{◌≡◌, ℕ, List, length, map}
use Rattle.ice_cells.specs.declared.cluster.Cluster.{Cluster}
use Rattle.ice_cells.specs.declared.cluster.Clusters.{Clusters}
use Rattle.ice_cells.specs.declared.design.Design.{Design}
use Rattle.ice_cells.specs.Clusterings.{IsClustering}
use Rattle.ice_cells.specs.Clusters.{clusters_of, need}
use Rattle.ice_cells.specs.Ranks.{rank_in, clusters_by}

-- whatever the ranks are
abbrev pub RanksGiveClusterings : Type 0
RanksGiveClusterings = (ranks : List ℕ) (d : Design) → IsClustering d (clusters_by ranks d)

-- where all have one rank, the order is that of the design
abbrev pub OneRankKeepsTheOrder : Type 0
OneRankKeepsTheOrder = (ranks : List ℕ) (rank : ℕ) (d : Design) → ((c : ℕ) → rank_in ranks c ≡ rank) → clusters_by ranks d ≡ clusters_of d

-- another order needs no more clusters and no fewer
abbrev pub OrdersNeedAsMany : Type 0
OrdersNeedAsMany = (d : Design) (clusters : Clusters) → IsClustering d clusters → length clusters.list ≡ need d

-- the chunks of runs are the same clusters in each order, and no others are chunks
abbrev pub OrdersHaveTheSameChunks : Type 0
OrdersHaveTheSameChunks =
    (d : Design) (clusters : Clusters) → IsClustering d clusters → map (λ (c : Cluster). c.run) clusters.list ≡ map (λ (c : Cluster). c.run) (clusters_of d).list
