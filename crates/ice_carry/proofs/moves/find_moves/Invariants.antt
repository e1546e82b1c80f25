use Rattle.std.proofs.Common.{◌≡◌, ◌++◌, drop}
use Rattle.ice_cells.specs.Moves.{moves}
use Rattle.ice_carry.proofs.moves.find_moves.Given as goal

abbrev pub invariant-loop-run : goal.invariant-loop-run
invariant-loop-run l = l.found.items ++ moves l.cells (drop l.run-index l.runs) ≡ moves l.cells l.runs
