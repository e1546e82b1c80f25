use Rattle.std.proofs.Common.{◌≡◌, map, take}
use Rattle.ice_bits.specs.TileForms.{kind_of}
use Rattle.ice_bits.proofs.bits.kinds_of.Given as goal

abbrev pub invariant-loop-tile : goal.invariant-loop-tile
invariant-loop-tile l = l.kinds.items ≡ map kind_of (take l.tile-index l.tiles)
