use Rattle.std.proofs.Common.{◌≡◌, take}
use Rattle.ice_sample.specs.Sections.{logic_places}
use Rattle.ice_sample.proofs.pads.logic_places.Given as goal

abbrev pub invariant-loop-tile : goal.invariant-loop-tile
invariant-loop-tile l = l.places.items ≡ logic_places (take l.tile-index l.tiles)
