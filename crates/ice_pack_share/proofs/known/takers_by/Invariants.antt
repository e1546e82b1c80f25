use Rattle.std.proofs.Common.{◌≡◌, map, take}
use Rattle.ice_cells.specs.Uses.{taker_of}
use Rattle.ice_pack_share.proofs.known.takers_by.Given as goal

abbrev pub invariant-loop-read : goal.invariant-loop-read
invariant-loop-read l = l.takers.items ≡ map taker_of (take l.read-index l.uses)
