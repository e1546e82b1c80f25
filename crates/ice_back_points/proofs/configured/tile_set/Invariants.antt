use Rattle.std.proofs.Common.{◌≡◌, take}
use Rattle.ice_back_points.proofs.configured.tile_set.Given as goal

abbrev pub invariant-loop-tile : goal.invariant-loop-tile
invariant-loop-tile l = l.set.keys ≡ take l.tile-index l.tiles
