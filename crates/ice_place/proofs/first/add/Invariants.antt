use Rattle.std.proofs.Common.{◌≡◌, ◌++◌, take}
use Rattle.ice_place.proofs.first.add.Given as goal

abbrev pub invariant-loop-tile : goal.invariant-loop-tile
invariant-loop-tile l = l.tiles.items ≡ l.fn.tiles.items ++ take l.tile-index l.more
