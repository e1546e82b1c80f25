use Rattle.std.proofs.Common.{◌≡◌, ◌++◌, drop, map}
use Rattle.ice_cells.specs.Moves.{moved_cell}
use Rattle.ice_carry.proofs.renames.push_moved.Given as goal

abbrev pub invariant-loop-c : goal.invariant-loop-c
invariant-loop-c l = l.after.items ++ map (moved_cell l.moved l.fed l.cells) (drop l.c-index l.movers) ≡ l.initial.after.items ++ map (moved_cell l.moved l.fed l.cells) l.movers
