use Rattle.std.proofs.Common.{◌≡◌, ◌∙◌, List, Some, length, get_or, slice_get, sym, subst, arith}
use Rattle.ice_base.specs.declared.number.WireNo.{WireNo}
use Rattle.ice_graph.specs.declared.tree.Tree.{Tree}
use Rattle.ice_core.specs.Moves.{HaveCounted, AreWithin}
use Rattle.ice_core.proofs.Moving.{tree_there, counted_next, counted_all}
use Rattle.ice_core.proofs.rounds.count_all.Goals as goal

pub loop-net-preserved : goal.loop-net-preserved
loop-net-preserved c =
    let i = c.loop-net.invariant in
    let tree : Tree = get_or c.args.trees.now c.loop-net.net c.index-trees-net.result in
    let at : slice_get c.args.trees.now c.loop-net.net ≡ Some tree = tree_there c.args.trees.now c.loop-net.net c.index-trees-net.result c.loop-net-test.true in
    let counted : HaveCounted c.loop-net.seen c.loop-net.net tree.wires.items (length tree.wires.items) c.count.new.seen c.count.new.marks =
    subst (λ (ws : List WireNo). HaveCounted c.loop-net.seen c.loop-net.net ws (length ws) c.count.new.seen c.count.new.marks) c.deref.ensures.value c.count.ensures in
    record {
      counted = counted_next c.args.trees.now c.loop-net.net tree c.loop-net.seen c.loop-net.marks c.count.new.seen c.count.new.marks at i.counted counted;
      long = counted.long.0 ∙ i.long;
    }

pub returns-clause-counts : goal.returns-clause-counts
returns-clause-counts c =
    let i = c.loop-net.invariant in
    counted_all c.args.trees.now c.loop-net.net c.loop-net.seen c.loop-net.marks (omega (arith, c.loop-net-test.false)) (subst (λ n. AreWithin n c.args.trees.now) (sym i.long) c.requires.within) i.counted
