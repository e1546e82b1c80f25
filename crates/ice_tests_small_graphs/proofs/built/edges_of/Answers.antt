use Rattle.std.proofs.Common.{subst, sym}
use Rattle.ice_tests_small_graphs.specs.Rising.{AreRising}
use Rattle.ice_tests_small_graphs.proofs.Pushing.{rising_none}
use Rattle.ice_tests_small_graphs.proofs.built.edges_of.Goals as goal

pub loop-place-init : goal.loop-place-init
loop-place-init c = subst (AreRising c.args.wires 0) (sym c.new-edges.ensures.items) (rising_none c.args.wires 0)
