use Rattle.ice_tests_small_graphs.specs.Rising.{AreRising}
use Rattle.ice_tests_small_graphs.proofs.drawn.drawn_edges.Given as goal

abbrev pub invariant-loop-row : goal.invariant-loop-row
invariant-loop-row l = AreRising l.wires l.row l.edges.items
