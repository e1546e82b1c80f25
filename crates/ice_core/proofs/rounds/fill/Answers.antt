use Rattle.std.proofs.Common.{◌≡◌, ◌∙◌, ◌++◌, List, Some, length, get_or, slice_get, sym, ap, subst, arith}
use Rattle.std.specs.List.{list_any}
use Rattle.ice_base.specs.declared.number.NetNo.{NetNo}
use Rattle.ice_base.specs.declared.number.WireNo.{WireNo}
use Rattle.ice_graph.specs.declared.tree.Tree.{Tree}
use Rattle.ice_core.specs.Moves.{AreBelow, HaveCounted, leaves_at, movers_of}
use Rattle.ice_core.proofs.Moving.{tree_there, counted_first, counted_low, counted_next, moves_is, movers_next, movers_all}
use Rattle.ice_core.proofs.rounds.fill.Goals as goal

pub loop-net-preserved : goal.loop-net-preserved
loop-net-preserved c =
    let i = c.loop-net.invariant in
    let tree : Tree = get_or c.args.trees.now c.loop-net.net c.index-trees-net.result in
    let at : slice_get c.args.trees.now c.loop-net.net ≡ Some tree = tree_there c.args.trees.now c.loop-net.net c.index-trees-net.result c.loop-net-test.true in
    let counted : HaveCounted c.loop-net.seen c.loop-net.net tree.wires.items (length tree.wires.items) c.step.new.seen c.step.new.marks =
    subst (λ (ws : List WireNo). HaveCounted c.loop-net.seen c.loop-net.net ws (length ws) c.step.new.seen c.step.new.marks) c.deref.ensures.value c.in_ok-step.ensures.counted in
    record {
      counted = counted_next c.args.trees.now c.loop-net.net tree c.loop-net.seen c.loop-net.marks c.step.new.seen c.step.new.marks at i.counted counted;
      long = counted.long.0 ∙ i.long;
      so_far = movers_next c.args.round c.args.trees.now c.loop-net.net tree (movers_of c.args.round c.args.trees.now) c.loop-net.nets.items c.step.new.nets.items (list_any (leaves_at c.args.round c.args.counts.now c.loop-net.seen) c.deref.result.now) at
          (ap (list_any (leaves_at c.args.round c.args.counts.now c.loop-net.seen)) c.deref.ensures.value ∙ moves_is c.args.round c.args.counts.now c.args.trees.now c.loop-net.net tree c.loop-net.seen c.loop-net.marks c.requires.counts i.long at i.counted)
          i.so_far c.in_ok-step.ensures.nets;
    }

pub loop-net-init : goal.loop-net-init
loop-net-init c = record {
  counted = counted_first c.args.trees.now c.args.seen.now c.args.marks.now (c.requires.lengths.1 ∙ sym c.requires.lengths.0) c.requires.seen c.requires.marks;
  long = c.requires.lengths.0;
  so_far = ap (λ (nets : List NetNo). nets ++ movers_of c.args.round c.args.trees.now) (sym c.requires.nets);
}

pub step-requires-clause-lengths : goal.step-requires-clause-lengths
step-requires-clause-lengths c = (c.loop-net.invariant.long, c.loop-net.invariant.counted.long ∙ c.loop-net.invariant.long)

pub step-requires-clause-wires : goal.step-requires-clause-wires
step-requires-clause-wires c =
    let tree : Tree = get_or c.args.trees.now c.loop-net.net c.index-trees-net.result in
    let at : slice_get c.args.trees.now c.loop-net.net ≡ Some tree = tree_there c.args.trees.now c.loop-net.net c.index-trees-net.result c.loop-net-test.true in
    subst (λ (ws : List WireNo). AreBelow (length c.args.counts.now) ws) (sym c.deref.ensures.value) (c.requires.counts.within c.loop-net.net tree at)

pub step-requires-clause-places : goal.step-requires-clause-places
step-requires-clause-places c = counted_low c.args.trees.now c.loop-net.net c.loop-net.seen c.loop-net.marks (omega (arith, c.loop-net-test.true)) c.loop-net.invariant.counted

pub step-requires-clause-low : goal.step-requires-clause-low
step-requires-clause-low c = c.loop-net.invariant.counted.low

pub returns : goal.returns
returns c = movers_all c.args.round c.args.trees.now c.loop-net.net (movers_of c.args.round c.args.trees.now) c.loop-net.nets.items (omega (arith, c.loop-net-test.false)) c.loop-net.invariant.so_far
