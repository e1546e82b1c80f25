use Rattle.ice_graph.specs.Levels.{Draws}
use Rattle.ice_graph.proofs.levels.draw.Given as goal

abbrev pub invariant-loop-edge : goal.invariant-loop-edge
invariant-loop-edge l = Draws l.edges l.edge-index l.level l.next
