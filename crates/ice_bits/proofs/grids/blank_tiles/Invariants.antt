use Rattle.std.proofs.Common.{◌≡◌, map, take}
use Rattle.ice_bits.specs.TileForms.{blank_at}
use Rattle.ice_bits.proofs.grids.blank_tiles.Given as goal

abbrev pub invariant-loop-tile : goal.invariant-loop-tile
invariant-loop-tile l = l.tiles.items ≡ map blank_at (take l.tile-index l.all)
