use Rattle.std.proofs.Common.{◌≡◌, ◌++◌, take}
use Rattle.std.specs.List.{filter}
use Rattle.ice_place.specs.Place.{joined}
use Rattle.ice_anneal.specs.Full.{is_free}
use Rattle.ice_anneal.proofs.full.add_stretches.Given as goal

abbrev pub invariant-loop-stretch : goal.invariant-loop-stretch
invariant-loop-stretch l = l.all.items ≡ l.fn.all.items ++ filter (is_free l.taken.keys) (joined (take l.stretch-index l.stretches))
