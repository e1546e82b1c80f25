use Rattle.ice_path.specs.Room.{IsFor}
use Rattle.ice_tests_routes.proofs.drawn_paths.compare_all.Given as goal

abbrev pub invariant-loop-target : goal.invariant-loop-target
invariant-loop-target g l = IsFor l.graph l.scratch
