use Rattle.std.proofs.Common.{ap, ◌∙◌}
use Rattle.ice_cells.specs.Clusters.{ends, runs_pieces}
use Rattle.ice_cluster.proofs.Opening.{groups_in}
use Rattle.ice_cluster.proofs.clustering.groups_in.Goals as goal

pub returns : goal.returns
returns c =
    groups_in c.args.cells.now c.args.runs.now c.args.flops.now c.args.plains.now c.in_ok-rest.rest.now c.in_ok-rest-2.rest.now
    c.open_runs.new.groups.items c.open_sets.new.groups.items c.open_plains.new.groups.items
    (c.in_ok-rest.ensures ∙ ap (ends (runs_pieces c.args.cells.now 0 c.args.runs.now) c.args.plains.now) c.new-groups.ensures.items)
    c.in_ok-rest-2.ensures
    c.in_ok-open_plains.ensures
