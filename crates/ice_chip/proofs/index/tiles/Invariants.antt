use Rattle.std.proofs.Common.{◌≡◌, ◌++◌, map}
use Rattle.ice_chip.specs.Listings.{tile_of}
use Rattle.ice_chip.proofs.index.tiles.Given as goal

abbrev pub invariant-loop-at : goal.invariant-loop-at
invariant-loop-at l =
    (goal.iterator-loop-at).can_next l.at-iterator × (goal.iterator-loop-at).is_finite l.at-iterator
    × (map tile_of l.parts.tiles.entries ≡ l.tiles.items ++ map tile_of l.at-iterator)
