use Rattle.std.proofs.Common.{◌∙◌, ◌≡◌, List, subst}
use Rattle.std.specs.Prelude.{IfOk}
use Rattle.ice_cells.specs.declared.cluster.TileCells.{TileCells}
use Rattle.ice_cells.specs.Clusters.{ends}
use Rattle.ice_cluster.proofs.Opening.{sets_opened}
use Rattle.ice_cluster.proofs.clustering.open_sets.Goals as goal

pub returns : goal.returns
returns c =
    let opened = sets_opened c.args.flops.now c.in_ok-sets.sets.keys c.as_slice.result.now c.in_ok-sets.ensures.sets (c.as_slice.ensures.value ∙ c.in_ok-sets.ensures.lists) in
    subst (λ (pieces : List TileCells). IfOk c.open_lists.result (λ rest. (c.open_lists.new.groups.items, rest.now) ≡ ends pieces c.args.plains.now c.args.groups.now.items)) opened c.open_lists.ensures
