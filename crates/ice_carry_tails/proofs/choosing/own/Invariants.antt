use Rattle.std.proofs.Common.{◌≡◌, ◌+◌, ◌++◌, drop}
use Rattle.ice_carry_tails.specs.Ends.{own}
use Rattle.ice_carry_tails.proofs.choosing.own.Given as goal

abbrev pub invariant-loop-place : goal.invariant-loop-place
invariant-loop-place l = l.found.items ++ own l.luts (l.first + l.place) (drop l.place l.tables) ≡ own l.luts l.first l.tables
