use Rattle.std.proofs.Common.{◌≡◌, ◌∙◌, ap, sym, map, subst}
use Rattle.ice_cells.specs.Clusterings.{groups_by, IsClustering}
use Rattle.ice_cells.specs.Clusters.{loose_flops, loose_plains, with_slots}
use Rattle.ice_cells.specs.Ranks.{by_rank, flop_rank, rank_in, flops_ranked, plains_ranked, clusters_by}
use Rattle.ice_cluster.proofs.InOrders.{of_ranks}
use Rattle.ice_cluster.proofs.clustering.cluster_by.Goals as goal

pub returns-clause-clusters : goal.returns-clause-clusters
returns-clause-clusters c =
    let ranks = c.args.ranks.now in
    let d = c.args.design.now in
    let flops : c.as_slice.result.now ≡ flops_ranked ranks d
    = c.as_slice.ensures.value ∙ c.in_ok-rank_flops.ensures ∙ ap (by_rank (flop_rank ranks)) (c.in_ok-flops.ensures.flops ∙ (λ i. loose_flops (c.cells.ensures i) (c.runs.ensures i))) in
    let plains : c.as_slice-2.result.now ≡ plains_ranked ranks d
    = c.as_slice-2.ensures.value ∙ c.in_ok-rank_plains.ensures ∙ ap (by_rank (rank_in ranks)) (c.in_ok-flops.ensures.plains ∙ (λ i. loose_plains (c.cells.ensures i) (c.runs.ensures i))) in
    let list : c.from_vec.result ≡ map with_slots (groups_by d.cells d.runs (flops_ranked ranks d) (plains_ranked ranks d))
    = c.from_vec.ensures ∙ c.in_ok-clusters_in.ensures
    ∙ ap (map with_slots) (c.as_slice-3.ensures.value ∙ c.in_ok-groups.ensures ∙ (λ i. groups_by (c.cells-2.ensures i) (c.runs-2.ensures i) (flops i) (plains i))) in
    λ i. record { list = list i }

pub returns-clause-clustering : goal.returns-clause-clustering
returns-clause-clustering c =
    let ranks = c.args.ranks.now in
    let d = c.args.design.now in
    let flops : c.as_slice.result.now ≡ flops_ranked ranks d
    = c.as_slice.ensures.value ∙ c.in_ok-rank_flops.ensures ∙ ap (by_rank (flop_rank ranks)) (c.in_ok-flops.ensures.flops ∙ (λ i. loose_flops (c.cells.ensures i) (c.runs.ensures i))) in
    let plains : c.as_slice-2.result.now ≡ plains_ranked ranks d
    = c.as_slice-2.ensures.value ∙ c.in_ok-rank_plains.ensures ∙ ap (by_rank (rank_in ranks)) (c.in_ok-flops.ensures.plains ∙ (λ i. loose_plains (c.cells.ensures i) (c.runs.ensures i))) in
    let list : c.from_vec.result ≡ map with_slots (groups_by d.cells d.runs (flops_ranked ranks d) (plains_ranked ranks d))
    = c.from_vec.ensures ∙ c.in_ok-clusters_in.ensures
    ∙ ap (map with_slots) (c.as_slice-3.ensures.value ∙ c.in_ok-groups.ensures ∙ (λ i. groups_by (c.cells-2.ensures i) (c.runs-2.ensures i) (flops i) (plains i))) in
    let made : record { list = c.from_vec.result } ≡ clusters_by ranks d = λ i. record { list = list i } in
    subst (IsClustering d) (sym made) (of_ranks ranks d)
