use Rattle.std.proofs.Common.{◌≡◌, [], drop}
use Rattle.ice_decode.specs.Different.{different}
use Rattle.ice_decode.proofs.numbering.different.Given as goal

abbrev pub invariant-loop-tile : goal.invariant-loop-tile
invariant-loop-tile l = different [] l.tiles ≡ different l.set.keys (drop l.tile-index l.tiles)
