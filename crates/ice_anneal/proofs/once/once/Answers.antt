use Rattle.std.proofs.Common.{◌≡◌, ◌+◌, ◌++◌, ◌∷◌, [], List, take, get_or, sym, subst, ap, ◌∙◌, arith}
use Rattle.std.specs.List.{All, Contains}
use Rattle.std.proofs.lemmas.List.{take_more, take_all}
use Rattle.std.proofs.lemmas.List.Elements.{All-push}
use Rattle.ice_anneal_board.specs.declared.net.Node.{Node}
use Rattle.ice_anneal_board.specs.declared.net.Node.TheVariants.{Cluster as of_cluster}
use Rattle.ice_anneal_board.specs.Length.{IsNode, net_length}
use Rattle.ice_anneal.proofs.Repeats.{Same, same_push, same_skip, same_length}
use Rattle.ice_anneal.proofs.once.once.Goals as goal
use Rattle.ice_anneal.proofs.once.once.Goals.{then-not-is_at_end+in_ok-push, else-not-is_at_end}

pub loop-node-preserved : goal.loop-node-preserved
loop-node-preserved c =
    let nodes = c.args.nodes.now in
    let i = c.loop-node.node-index in
    let d : Node = of_cluster 0 in
    let node = get_or nodes i d in
    let kept = c.loop-node.kept.items in
    let now = c.if-not-is_at_end.kept.items in
    let old = c.loop-node.invariant in
    let lt = c.loop-node-test.true in
    let more = take_more nodes i d lt in
    elim c.if-not-is_at_end.branch [
      | then-not-is_at_end+in_ok-push w ↦
          let e : now ≡ kept ++ node ∷ [] = ap (λ v. v.items) w.kept-is ∙ w.in_ok-push.ensures.items in
          record {
            nodes = λ count within. subst (λ (ns : List Node). All (IsNode count) ns) (sym e) (All-push (IsNode count) kept node (old.nodes count within) (within i d lt));
            same = subst (λ (ns : List Node). Same ns (take (i + 1) nodes)) (sym e) (subst (λ (ns : List Node). Same (kept ++ node ∷ []) ns) (sym more) (same_push kept (take i nodes) node old.same));
          }
      | else-not-is_at_end w ↦
          let e : now ≡ kept = ap (λ v. v.items) w.kept-is in
          let has : Contains kept node = subst (λ (ns : List Node). Contains ns node) c.deref.ensures.value (c.is_at_end.ensures w.if-not-is_at_end.false) in
          record {
            nodes = λ count within. subst (λ (ns : List Node). All (IsNode count) ns) (sym e) (old.nodes count within);
            same = subst (λ (ns : List Node). Same ns (take (i + 1) nodes)) (sym e) (subst (λ (ns : List Node). Same kept ns) (sym more) (same_skip kept (take i nodes) node has old.same));
          }
    ]

pub returns-clause-lengths : goal.returns-clause-lengths
returns-clause-lengths c at =
    same_length c.loop-node.kept.items (take c.loop-node.node-index c.args.nodes.now) c.loop-node.invariant.same at ∙ ap (net_length at) (take_all c.loop-node.node-index c.args.nodes.now (omega arith))
