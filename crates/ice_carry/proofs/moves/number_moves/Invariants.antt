use Rattle.std.proofs.Common.{◌≡◌, ◌++◌, drop}
use Rattle.ice_cells.specs.Runs.{numbered}
use Rattle.ice_carry.proofs.moves.number_moves.Given as goal

abbrev pub invariant-loop-c : goal.invariant-loop-c
invariant-loop-c l = l.pairs.items ++ numbered l.number (drop l.c-index l.movers) ≡ numbered l.first l.movers
