use Rattle.std.proofs.Common.{ap, ◌∙◌, arith, ℕ, Some, ◌∷◌, []}
use Rattle.ice_cells.specs.Clusters.{ends, group_of, run_piece}
use Rattle.ice_cells.specs.Pieces.{first_control, piece, pieces_count}
use Rattle.ice_cluster.proofs.Opening.{piece_more, same_opened}
use Rattle.ice_cluster.proofs.filling.open_run.Goals as goal

pub loop-k-preserved : goal.loop-k-preserved
loop-k-preserved c =
    piece_more (run_piece c.args.cells.now c.args.r c.args.members.now) c.loop-k.k (pieces_count c.args.members.now) c.loop-k.rest.now c.in_ok-rest.rest.now c.loop-k.groups.items c.open.new.groups.items (omega arith)
    (c.in_ok-rest.ensures ∙ same_opened _ _ _ _ _ c.loop-k.rest.now c.loop-k.groups.items c.piece-part.ensures (c.first_control.ensures ∙ ap (first_control c.args.cells.now) c.piece-part.ensures)
    ∙ ap (λ (m : ℕ). ends (group_of (piece c.args.members.now c.loop-k.k) (first_control c.args.cells.now (piece c.args.members.now c.loop-k.k)) (Some (c.args.r, m)) ∷ []) c.loop-k.rest.now c.loop-k.groups.items) c.in_ok-to_u32.ensures)
    ∙ c.loop-k.invariant
