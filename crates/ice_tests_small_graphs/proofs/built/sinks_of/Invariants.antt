use Rattle.ice_negotiate_defs.specs.Trees.{AreSinks}
use Rattle.ice_tests_small_graphs.proofs.built.sinks_of.Given as goal

abbrev pub invariant-loop-place : goal.invariant-loop-place
invariant-loop-place l = AreSinks l.wires l.sinks.items
