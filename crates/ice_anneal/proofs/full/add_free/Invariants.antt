use Rattle.std.proofs.Common.{◌≡◌, ◌++◌, take}
use Rattle.std.specs.List.{filter}
use Rattle.ice_anneal.specs.Full.{is_free}
use Rattle.ice_anneal.proofs.full.add_free.Given as goal

abbrev pub invariant-loop-tile : goal.invariant-loop-tile
invariant-loop-tile l = l.all.items ≡ l.fn.all.items ++ filter (is_free l.taken.keys) (take l.tile-index l.sites)
