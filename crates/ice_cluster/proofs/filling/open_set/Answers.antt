use Rattle.std.proofs.Common.{ap, ◌∙◌, refl, arith}
use Rattle.ice_cells.specs.Clusters.{set_piece}
use Rattle.ice_cells.specs.Pieces.{first_control, pieces_count}
use Rattle.ice_cluster.proofs.Opening.{piece_more, same_opened}
use Rattle.ice_cluster.proofs.filling.open_set.Goals as goal

pub loop-k-preserved : goal.loop-k-preserved
loop-k-preserved c =
    piece_more (set_piece c.args.control c.args.members.now) c.loop-k.k (pieces_count c.args.members.now) c.loop-k.rest.now c.in_ok-rest.rest.now c.loop-k.groups.items c.open.new.groups.items (omega arith)
    (c.in_ok-rest.ensures ∙ same_opened _ _ _ _ _ c.loop-k.rest.now c.loop-k.groups.items c.piece.ensures refl)
    ∙ c.loop-k.invariant
