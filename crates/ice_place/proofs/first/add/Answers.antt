use Rattle.ice_place.proofs.Joining.{tile_more, all_tiles}
use Rattle.ice_place.proofs.first.add.Goals as goal

pub loop-tile-preserved : goal.loop-tile-preserved
loop-tile-preserved c = tile_more c.args.more.now c.loop-tile.tile-index _ c.args.tiles.now.items c.loop-tile.tiles.items c.push.new.self.items c.loop-tile-test.true c.loop-tile.invariant c.in_ok-push.ensures.items

pub returns : goal.returns
returns c = all_tiles c.args.more.now c.loop-tile.tile-index c.args.tiles.now.items c.loop-tile.tiles.items c.loop-tile-test.false c.loop-tile.invariant
