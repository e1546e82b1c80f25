use Rattle.std.proofs.Common.{arith, ◌∙◌}
use Rattle.ice_asc.proofs.Joining.{tile_more}
use Rattle.ice_asc.proofs.write.put_tiles.Goals as goal

pub loop-tile-preserved : goal.loop-tile-preserved
loop-tile-preserved c =
    c.in_ok-put_tile.ensures ∙ tile_more c.args.bits.now c.args.tiles.now c.loop-tile.tile-index _ c.args.out.now.items c.loop-tile.out.items (omega arith) c.loop-tile.invariant
