use Rattle.std.proofs.Common.{[], refl, sym, ap, ◌∙◌}
use Rattle.ice_cells.specs.Ranks.{clusters_by}
use Rattle.ice_anneal_arrangement.proofs.ordering.in_own_order.Goals as goal

pub returns-clause-by_ranks : goal.returns-clause-by_ranks
returns-clause-by_ranks c =
    c.requires ∙ sym (c.one_rank_keeps_the_order.ensures [] 0 c.args.design.now (λ k. refl)) ∙ ap (λ ranks. clusters_by ranks c.args.design.now) (sym c.no_ranks-ranks.ensures)
