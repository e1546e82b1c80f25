use Rattle.ice_negotiate_defs.specs.Trees.{AreSinks}
use Rattle.ice_tests_rounds.proofs.drawn_nets.drawn_sinks.Given as goal

abbrev pub invariant-loop-turn : goal.invariant-loop-turn
invariant-loop-turn g l = AreSinks l.graph.wires l.sinks.items
