use Rattle.std.proofs.Common.{subst}
use Rattle.ice_core.specs.Congestion.{price}
use Rattle.ice_path.specs.Aims.{bound_in}
use Rattle.ice_path.specs.Search.{IsFirstLabelled}
use Rattle.ice_path.proofs.Choosing.{first_taken, some_taken}
use Rattle.ice_path.proofs.back.taken_target.Goals as goal

pub unreachable-requires : goal.unreachable-requires
unreachable-requires c =
    some_taken c.args.graph.now.edges (price c.args.prices.now) c.args.tree.now c.args.aim.now.targets.now (bound_in c.args.graph.now c.args.aim.now) c.args.labels.now c.args.cost c.requires.aim.home c.requires.cost c.requires.exact
    (subst (IsFirstLabelled c.args.labels.now c.args.cost c.args.aim.now.targets.now) c.in_default.is c.first_labelled.ensures)

pub returns : goal.returns
returns c =
    let t = c.in-Some.ensures in
    first_taken c.args.graph.now.edges (price c.args.prices.now) c.args.tree.now c.args.aim.now.targets.now (bound_in c.args.graph.now c.args.aim.now) c.args.labels.now c.args.cost t.0 c.in-Some.target c.requires.aim.home c.requires.cost c.requires.exact t.1 t.2 t.3
