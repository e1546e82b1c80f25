use Rattle.ice_path.specs.Room.{AreWires}
use Rattle.ice_tests_routes.proofs.drawn_paths.drawn_wires.Given as goal

abbrev pub invariant-loop : goal.invariant-loop
invariant-loop l = AreWires l.wires l.list.items
