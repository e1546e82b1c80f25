use Rattle.ice_tests_small_graphs.specs.Rising.{AreRising}
use Rattle.ice_tests_small_graphs.proofs.built.edges_of.Given as goal

abbrev pub invariant-loop-place : goal.invariant-loop-place
invariant-loop-place l = AreRising l.wires l.least l.edges.items
