use Rattle.std.proofs.Common.{◌≡◌, ◌++◌, drop}
use Rattle.ice_cells.specs.Moves.{become_from}
use Rattle.ice_carry.proofs.renames.push_become.Given as goal

abbrev pub invariant-loop-c : goal.invariant-loop-c
invariant-loop-c l = l.after.items ++ become_from l.moved l.fed l.c (drop l.c l.cells) ≡ l.initial.after.items ++ become_from l.moved l.fed 0 l.cells
