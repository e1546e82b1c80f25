use Rattle.std.proofs.Common.{◌≡◌, take}
use Rattle.ice_place.specs.Place.{sites_count}
use Rattle.ice_place.proofs.refusal.sites_count.Given as goal

abbrev pub invariant-loop-stretch : goal.invariant-loop-stretch
invariant-loop-stretch l = l.total ≡ sites_count (take l.stretch-index l.stretches)
