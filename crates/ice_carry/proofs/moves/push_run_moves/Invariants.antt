use Rattle.std.proofs.Common.{◌≡◌, ◌++◌, ◌-◌}
use Rattle.std.specs.List.{flat_map, range_with_len}
use Rattle.ice_cells.specs.Pieces.{pieces_count}
use Rattle.ice_cells.specs.Moves.{moves_at}
use Rattle.ice_carry.proofs.moves.push_run_moves.Given as goal

abbrev pub invariant-loop-k : goal.invariant-loop-k
invariant-loop-k l =
    l.moves.items ++ flat_map (moves_at l.cells l.members) (range_with_len l.k (pieces_count l.members - l.k))
    ≡ l.initial.moves.items ++ flat_map (moves_at l.cells l.members) (range_with_len 0 (pieces_count l.members))
