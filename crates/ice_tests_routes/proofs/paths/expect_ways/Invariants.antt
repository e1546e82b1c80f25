use Rattle.ice_path.specs.Room.{IsFor}
use Rattle.ice_tests_routes.proofs.paths.expect_ways.Given as goal

abbrev pub invariant-loop-way : goal.invariant-loop-way
invariant-loop-way g l = IsFor l.graph l.scratch
