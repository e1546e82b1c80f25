use Rattle.std.proofs.Common.{◌≡◌, drop}
use Rattle.ice_place.specs.Place.{too_long}
use Rattle.ice_place.proofs.refusal.too_long.Given as goal

abbrev pub invariant-loop-length : goal.invariant-loop-length
invariant-loop-length l = too_long l.tallest (drop l.length-index l.runs) ≡ too_long l.tallest l.runs
