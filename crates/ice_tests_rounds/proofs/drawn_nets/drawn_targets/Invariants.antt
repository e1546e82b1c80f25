use Rattle.ice_path.specs.Room.{AreWires}
use Rattle.ice_tests_rounds.proofs.drawn_nets.drawn_targets.Given as goal

abbrev pub invariant-loop-turn : goal.invariant-loop-turn
invariant-loop-turn g l = AreWires l.graph.wires l.targets.items
