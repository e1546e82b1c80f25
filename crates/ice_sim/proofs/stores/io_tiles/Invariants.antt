use Rattle.std.proofs.Common.{◌≡◌, ◌++◌, drop}
use Rattle.ice_sim.proofs.StoreLists.{io_among}
use Rattle.ice_sim.proofs.stores.io_tiles.Given as goal

abbrev pub invariant-loop-tile : goal.invariant-loop-tile
invariant-loop-tile l = io_among l.tile-items ≡ l.tiles.items ++ io_among (drop l.tile-index l.tile-items)
