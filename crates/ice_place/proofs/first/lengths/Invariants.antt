use Rattle.std.proofs.Common.{◌≡◌, take}
use Rattle.ice_place.specs.Place.{lengths}
use Rattle.ice_place.proofs.first.lengths.Given as goal

abbrev pub invariant-loop-run : goal.invariant-loop-run
invariant-loop-run l = l.made.items ≡ lengths (take l.run-index l.runs)
