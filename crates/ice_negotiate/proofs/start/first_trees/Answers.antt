use Rattle.std.proofs.Common.{◌+◌, length, refl, subst, sym}
use Rattle.std.proofs.lemmas.Option.{slice_get_read}
use Rattle.ice_negotiate.proofs.Keeping.{BeginTo, begin_more}
use Rattle.ice_negotiate.proofs.start.first_trees.Goals as goal

pub loop-net-preserved : goal.loop-net-preserved
loop-net-preserved c =
    subst (BeginTo c.args.kept.now (c.loop-net.net + 1)) (sym c.in_ok-push.ensures.items)
    (begin_more c.args.kept.now c.loop-net.net c.index-kept-net.result c.loop-net.trees.items c.in_ok-first_tree.field-0
    (slice_get_read c.args.kept.now (length c.args.kept.now) c.loop-net.net c.index-kept-net.result refl c.loop-net-test.true c.index-kept-net.is) c.in_ok-first_tree.ensures c.loop-net.invariant)
