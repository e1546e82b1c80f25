use Rattle.std.proofs.Common.{ap, ◌∙◌, arith}
use Rattle.ice_cells.specs.Pieces.{pieces_count}
use Rattle.ice_cells.specs.Moves.{moves_at, piece_moves}
use Rattle.ice_carry.proofs.Moving.{moved_more}
use Rattle.ice_carry.proofs.moves.push_run_moves.Goals as goal

pub loop-k-preserved : goal.loop-k-preserved
loop-k-preserved c =
    moved_more (moves_at c.args.cells.now c.args.members.now) c.loop-k.k (pieces_count c.args.members.now) c.loop-k.moves.items c.push_piece_moves.new.moves.items _ (omega arith)
    (ap (piece_moves c.args.cells.now) c.piece.ensures) c.in_ok-push_piece_moves.ensures
    ∙ c.loop-k.invariant
