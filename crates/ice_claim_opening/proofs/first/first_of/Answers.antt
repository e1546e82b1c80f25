use Rattle.std.proofs.Common.{◌≡◌, List, subst}
use Rattle.ice_base.specs.declared.number.WireNo.{WireNo}
use Rattle.ice_core.specs.Congestion.{price}
use Rattle.ice_negotiate_defs.specs.Trees.{AreReached, IsTree, route_of}
use Rattle.ice_claim_opening.proofs.Firsts.{first_whole}
use Rattle.ice_claim_opening.proofs.first.first_of.Goals as goal

pub returns-in-Ok-clause-first : goal.returns-in-Ok-clause-first
returns-in-Ok-clause-first c =
    let edges = c.args.graph.now.edges in
    let root = c.args.net.now.root in
    let sinks : c.deref.result.now ≡ c.args.net.now.sinks.items = c.deref.ensures.value in
    first_whole c.args.graph.now c.args.net.now c.args.prices.now c.in-Ok.tree c.requires.one
    (subst (λ (all : List (List WireNo)). IsTree edges (price c.args.prices.now) root all (route_of c.in-Ok.tree)) sinks c.in-Ok.ensures.tree)
    (subst (λ (all : List (List WireNo)). AreReached edges root all) sinks c.in-Ok.ensures.reached)
    c.in-Ok.ensures.rooted c.in-Ok.ensures.apart
