use Rattle.std.proofs.Common.{◌≡◌, ◌++◌, drop}
use Rattle.std.specs.List.{flat_map}
use Rattle.ice_decode.specs.Cells.{cells_in}
use Rattle.ice_sim.proofs.stores.cells_of.Given as goal

abbrev pub invariant-loop-tile : goal.invariant-loop-tile
invariant-loop-tile l = flat_map cells_in l.tiles ≡ l.cells.items ++ flat_map cells_in (drop l.tile-index l.tiles)
