use Rattle.std.proofs.Common.{◌≡◌, [], drop}
use Rattle.ice_chip.specs.Database.{same_tile}
use Rattle.ice_sim.specs.ConfiguredChips.{with_places}
use Rattle.ice_sim.proofs.configured.tile_places.Given as goal

abbrev pub invariant-loop-k : goal.invariant-loop-k
invariant-loop-k l = with_places same_tile 0 l.tiles [] ≡ with_places same_tile l.k (drop l.k l.tiles) l.places.entries
