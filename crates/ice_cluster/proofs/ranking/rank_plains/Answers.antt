use Rattle.std.proofs.Common.{◌≡◌, rules}
use Rattle.std.proofs.lemmas.Fn.{always_returns_same}
use Rattle.std.proofs.lemmas.List.Sorted.{IsNonDecreasingBy-from_sort}
use Rattle.ice_cells.specs.Ranks.{rank_in}
use Rattle.ice_cluster.proofs.ByRank.{by_rank_from_sort}
use Rattle.ice_cluster.proofs.ranking.rank_plains.Goals as goal

pub returns : goal.returns
returns c =
    let keys = always_returns_same _ (λ a r. r ≡ rank_in c.args.ranks.now a.0.now) _ (λ a r next called. search rules) in
    by_rank_from_sort (rank_in c.args.ranks.now) _ _ (IsNonDecreasingBy-from_sort (rank_in c.args.ranks.now) _ (c.in_ok-sort_by_key.ensures.sorted (rank_in c.args.ranks.now) keys))
    (c.sort_by_key.ensures.stable (rank_in c.args.ranks.now) keys)
