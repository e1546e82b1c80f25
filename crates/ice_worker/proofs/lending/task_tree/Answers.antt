use Rattle.std.proofs.Common.{List, IfErr, OnOk, length, sym, ap, subst, ◌∙◌}
use Rattle.std.proofs.lemmas.Result.{IfOk-weaker}
use Rattle.ice_base.specs.declared.number.WireNo.{WireNo}
use Rattle.ice_graph.specs.declared.tree.Tree.{Tree}
use Rattle.ice_core.specs.declared.prices.Prices.{Prices}
use Rattle.ice_core.specs.Congestion.{price}
use Rattle.ice_path.specs.Room.{AreWires}
use Rattle.ice_negotiate_defs.specs.Trees.{AreReached, AreSinks, IsCause, IsTree, route_of}
use Rattle.ice_worker.specs.Tasks.{AreTaskPrices, IsNewTree}
use Rattle.ice_worker.proofs.lending.task_tree.Goals as goal

pub leave-requires-clause-within : goal.leave-requires-clause-within
leave-requires-clause-within c = subst (λ (ws : List WireNo). AreWires (length c.args.round.now.counts.items) ws) (sym c.deref.ensures.value) c.requires.old

pub tree_of-made-requires-clause-prices : goal.tree_of-made-requires-clause-prices
tree_of-made-requires-clause-prices c =
    let r = c.args.round.now in
    let p : Prices = c.leave.new.prices in
    c.requires.bounded p (subst (λ (ws : List WireNo). AreTaskPrices r.round r.history.items r.counts.items ws p) c.deref.ensures.value c.leave.ensures)

pub tree_of-made-requires-clause-wires : goal.tree_of-made-requires-clause-wires
tree_of-made-requires-clause-wires c = ap length c.leave.ensures.histories ∙ c.requires.history

pub tree_of-made-requires-clause-sinks : goal.tree_of-made-requires-clause-sinks
tree_of-made-requires-clause-sinks c = subst (λ (sinks : List (List WireNo)). AreSinks c.args.graph.now.wires sinks) (sym c.deref-2.ensures.value) c.requires.task.sinks

pub come_back-requires-clause-left : goal.come_back-requires-clause-left
come_back-requires-clause-left c =
    let r = c.args.round.now in
    subst (λ (ws : List WireNo). AreTaskPrices r.round r.history.items r.counts.items ws c.leave.new.prices) (c.deref.ensures.value ∙ sym c.deref-3.ensures.value) c.leave.ensures

pub come_back-requires-clause-within : goal.come_back-requires-clause-within
come_back-requires-clause-within c = subst (λ (ws : List WireNo). AreWires (length c.args.round.now.counts.items) ws) (sym c.deref-3.ensures.value) c.requires.old

pub returns-clause-tree : goal.returns-clause-tree
returns-clause-tree c =
    let r = c.args.round.now in
    let p : Prices = c.leave.new.prices in
    IfOk-weaker c.tree_of-made.result (λ (tree : Tree). IsTree c.args.graph.now.edges (price p) c.args.task.now.root c.deref-2.result.now (route_of tree)) (IsNewTree c.args.graph.now r c.args.task.now)
    (λ tree is. (
      p,
      subst (λ (ws : List WireNo). AreTaskPrices r.round r.history.items r.counts.items ws p) c.deref.ensures.value c.leave.ensures,
      subst (λ (sinks : List (List WireNo)). IsTree c.args.graph.now.edges (price p) c.args.task.now.root sinks (route_of tree)) c.deref-2.ensures.value is,
    ))
    c.tree_of-made.ensures.tree

pub returns-clause-rooted : goal.returns-clause-rooted
returns-clause-rooted c = c.tree_of-made.ensures.rooted

pub returns-clause-apart : goal.returns-clause-apart
returns-clause-apart c = c.tree_of-made.ensures.apart

pub leave-requires-clause-open : goal.leave-requires-clause-open
leave-requires-clause-open c = c.requires.«open»

pub tree_of-made-requires-clause-root : goal.tree_of-made-requires-clause-root
tree_of-made-requires-clause-root c = c.requires.task.root

pub tree_of-made-requires-clause-scratch : goal.tree_of-made-requires-clause-scratch
tree_of-made-requires-clause-scratch c = c.requires.scratch

pub returns-clause-reached : goal.returns-clause-reached
returns-clause-reached c =
    subst (λ (sinks : List (List WireNo)). OnOk c.tree_of-made.result (AreReached c.args.graph.now.edges c.args.task.now.root sinks)) c.deref-2.ensures.value c.tree_of-made.ensures.reached

pub returns-clause-stop : goal.returns-clause-stop
returns-clause-stop c =
    subst (λ (sinks : List (List WireNo)). IfErr c.tree_of-made.result (IsCause c.args.graph.now.edges c.args.task.now.root sinks)) c.deref-2.ensures.value c.tree_of-made.ensures.stop

pub returns-clause-open : goal.returns-clause-open
returns-clause-open c = c.come_back.ensures

pub returns-clause-scratch : goal.returns-clause-scratch
returns-clause-scratch c = c.tree_of-made.ensures.scratch
