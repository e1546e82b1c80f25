use Rattle.std.proofs.Common.{subst, sym}
use Rattle.ice_tests_small_graphs.specs.Rising.{AreRising}
use Rattle.ice_tests_small_graphs.proofs.Pushing.{rising_none}
use Rattle.ice_tests_small_graphs.proofs.drawn.drawn_edges.Goals as goal

pub loop-row-init : goal.loop-row-init
loop-row-init c = subst (AreRising c.args.wires 0) (sym c.new-edges.ensures.items) (rising_none c.args.wires 0)
