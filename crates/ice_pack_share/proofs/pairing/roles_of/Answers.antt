use Rattle.std.proofs.Common.{◌∙◌, ap, map, arith}
use Rattle.std.proofs.lemmas.List.{take_all}
use Rattle.ice_cells.specs.Pairs.{role_of}
use Rattle.ice_base.proofs.Pushed.{mapped_push}
use Rattle.ice_pack_share.proofs.pairing.roles_of.Goals as goal

pub loop-cell-preserved : goal.loop-cell-preserved
loop-cell-preserved c =
    mapped_push (role_of c.args.origins.now) c.args.cells.now c.loop-cell.cell-index _ _ _ _ (omega arith) c.loop-cell.invariant c.in_ok-push.ensures.items (c.role_of.ensures ∙ ap (role_of c.args.origins.now) c.cell-item.is)

pub returns : goal.returns
returns c = c.loop-cell.invariant ∙ ap (map (role_of c.args.origins.now)) (take_all c.loop-cell.cell-index c.args.cells.now (omega arith))
