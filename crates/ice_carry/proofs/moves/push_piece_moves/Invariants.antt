use Rattle.std.proofs.Common.{◌≡◌, ◌++◌, drop}
use Rattle.std.specs.List.{filter}
use Rattle.ice_cells.specs.Pieces.{control_at}
use Rattle.ice_cells.specs.Moves.{differs}
use Rattle.ice_carry.proofs.moves.push_piece_moves.Given as goal

abbrev pub invariant-loop-c : goal.invariant-loop-c
invariant-loop-c l = l.moves.items ++ filter (λ c. differs l.first (control_at l.cells c)) (drop l.c-index l.members) ≡ l.initial.moves.items ++ filter (λ c. differs l.first (control_at l.cells c)) l.members
