use Rattle.std.proofs.Common.{◌++◌, codes, decimal, refl}
use Rattle.ice_base.proofs.Pieces.{further}
use Rattle.ice_sample.proofs.Picking.{ended}
use Rattle.ice_sample.proofs.netlist.put_flip_flop.Goals as goal

pub returns : goal.returns
returns c =
    ended _ _ _ _
    (further _ _ _ (codes ".gate SB_DFF C=clk_g D=n" ++ decimal c.args.cell) (codes " Q=q" ++ decimal c.args.cell) _ c.in_ok-put_lettered.ensures c.in_ok-put_lettered-2.ensures refl)
    c.in_ok-push.ensures.items
