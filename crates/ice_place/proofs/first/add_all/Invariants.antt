use Rattle.std.proofs.Common.{◌≡◌, ◌++◌, take}
use Rattle.ice_place.specs.Place.{joined}
use Rattle.ice_place.specs.Views.{tiles_of}
use Rattle.ice_place.proofs.first.add_all.Given as goal

abbrev pub invariant-loop-slice : goal.invariant-loop-slice
invariant-loop-slice l = l.tiles.items ≡ l.fn.tiles.items ++ joined (tiles_of (take l.slice-index l.slices))
