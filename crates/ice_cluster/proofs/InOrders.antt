-- Clusters by ranks have the cells in some order; by one rank in that of the design.
use Rattle.std.proofs.Common.{◌≡◌, ℕ, List, [], refl}
use Rattle.ice_cells.specs.declared.design.Design.{Design}
use Rattle.ice_cells.specs.Clusterings.{clusters_with, IsClustering}
use Rattle.ice_cells.specs.Clusters.{loose_flops, loose_plains, clusters_of}
use Rattle.ice_cells.specs.Ranks.{flop_rank, rank_in, flops_ranked, plains_ranked, clusters_by}
use Rattle.ice_cluster.proofs.ByRank.{by_rank_permutes, by_rank_alike}

pub of_ranks : (ranks : List ℕ) (d : Design) → IsClustering d (clusters_by ranks d)
of_ranks ranks d = record {
  flops = flops_ranked ranks d;
  plains = plains_ranked ranks d;
  flops_are = by_rank_permutes (flop_rank ranks) (loose_flops d.cells d.runs);
  plains_are = by_rank_permutes (rank_in ranks) (loose_plains d.cells d.runs);
  is = refl;
}

pub of_one_rank : (ranks : List ℕ) (rank : ℕ) (d : Design) → ((c : ℕ) → rank_in ranks c ≡ rank) → clusters_by ranks d ≡ clusters_of d
of_one_rank ranks rank d same =
    λ i. clusters_with d (by_rank_alike (flop_rank ranks) rank (loose_flops d.cells d.runs) (λ flop. same flop.0) i) (by_rank_alike (rank_in ranks) rank (loose_plains d.cells d.runs) same i)

-- a list of no ranks
pub unranked : (d : Design) → clusters_by [] d ≡ clusters_of d
unranked d = of_one_rank [] 0 d (λ c. refl)
