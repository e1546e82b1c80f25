use Rattle.ice_graph.specs.Boxes.{AreBoxesUpTo}
use Rattle.ice_graph.proofs.boxes.grow_all.Given as goal

abbrev pub invariant-loop-i : goal.invariant-loop-i
invariant-loop-i l = AreBoxesUpTo l.wires l.edges l.places l.i l.boxes
