use Rattle.ice_path.specs.Room.{AreWires}
use Rattle.ice_tests_small_graphs.proofs.built.wires_of.Given as goal

abbrev pub invariant-loop-place : goal.invariant-loop-place
invariant-loop-place l = AreWires l.wires l.list.items
