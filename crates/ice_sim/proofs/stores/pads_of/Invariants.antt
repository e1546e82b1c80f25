use Rattle.std.proofs.Common.{◌≡◌, ◌++◌, drop}
use Rattle.std.specs.List.{flat_map}
use Rattle.ice_decode.specs.Pads.{pads_in}
use Rattle.ice_sim.proofs.stores.pads_of.Given as goal

abbrev pub invariant-loop-tile : goal.invariant-loop-tile
invariant-loop-tile l = flat_map pads_in l.tiles ≡ l.pads.items ++ flat_map pads_in (drop l.tile-index l.tiles)
