use Rattle.std.proofs.Common.{◌≡◌, ◌++◌, drop}
use Rattle.ice_decode.specs.Tiles.{logic_among}
use Rattle.ice_decode.proofs.tiles.logic_tiles.Given as goal

abbrev pub invariant-loop-tile : goal.invariant-loop-tile
invariant-loop-tile l = logic_among l.tile-items ≡ l.tiles.items ++ logic_among (drop l.tile-index l.tile-items)
