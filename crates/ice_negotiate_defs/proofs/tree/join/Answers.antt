use Rattle.std.proofs.Common.{◌≡◌, List, Option, Some, IfSome, IfNone, sym, subst}
use Rattle.std.proofs.lemmas.Option.{slice_get-get_or}
use Rattle.ice_core.specs.Congestion.{price}
use Rattle.ice_graph.specs.declared.edge.Edge.{Edge}
use Rattle.ice_path.specs.Paths.{IsTakenTo}
use Rattle.ice_path.specs.Walks.{NoWalkTo}
use Rattle.ice_path.proofs.Settling.{price_positive}
use Rattle.ice_negotiate_defs.specs.Trees.{AreOnce, IsRooted}
use Rattle.ice_negotiate_defs.proofs.Joining.{rooted_more, sink_reached, taken_once, unreached}
use Rattle.ice_negotiate_defs.proofs.tree.join.Goals as goal

-- the path that is there is the taken one
the_taken : (P : List Edge → Type 0) (found : Option (List Edge)) (path : List Edge) → found ≡ Some path → IfSome found P → P path
the_taken P found path is h = subst (λ o. IfSome o P) is h

pub returns-clause-rooted : goal.returns-clause-rooted
returns-clause-rooted c =
    let taken = the_taken (IsTakenTo c.args.graph.now.edges (price c.args.prices.now) c.args.tree.now.wires.items c.args.targets.now) c.connect_ahead.new.scratch.path c.path.result.now c.path.ensures c.in-Some.ensures.path in
    subst (IsRooted c.args.graph.now c.args.root) (sym c.in_ok-extend.ensures.wires)
    (rooted_more c.args.graph.now c.args.root (price c.args.prices.now) c.args.tree.now.wires.items c.args.targets.now c.path.result.now c.edges-edges.ensures.between c.requires.rooted taken)

pub returns-clause-reached : goal.returns-clause-reached
returns-clause-reached c =
    let taken = the_taken (IsTakenTo c.args.graph.now.edges (price c.args.prices.now) c.args.tree.now.wires.items c.args.targets.now) c.connect_ahead.new.scratch.path c.path.result.now c.path.ensures c.in-Some.ensures.path in
    sink_reached c.args.graph.now c.args.root (price c.args.prices.now) c.args.tree.now.wires.items c.args.targets.now c.path.result.now c.requires.rooted taken

pub returns-clause-apart : goal.returns-clause-apart
returns-clause-apart c =
    let taken = the_taken (IsTakenTo c.args.graph.now.edges (price c.args.prices.now) c.args.tree.now.wires.items c.args.targets.now) c.connect_ahead.new.scratch.path c.path.result.now c.path.ensures c.in-Some.ensures.path in
    subst AreOnce (sym c.in_ok-extend.ensures.wires)
    (taken_once c.args.graph.now.edges (price c.args.prices.now) c.args.tree.now.wires.items (price_positive c.args.prices.now) c.requires.apart taken.0.0 c.path.result.now taken.3)

pub returns-in_default-clause-stop : goal.returns-in_default-clause-stop
returns-in_default-clause-stop c =
    let none = subst (λ o. IfNone o (NoWalkTo c.args.graph.now.edges c.args.tree.now.wires.items c.args.targets.now)) c.in_default.is c.connect_ahead.ensures.none in
    (slice_get-get_or c.args.targets.now 0 (record { 0 = 0 }) c.requires.some, unreached c.args.graph.now c.args.root c.args.tree.now.wires.items c.args.targets.now c.requires.rooted none)
