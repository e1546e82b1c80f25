use Rattle.std.proofs.Common.{◌≡◌, take}
use Rattle.ice_bits.proofs.grids.copies_of.Given as goal

abbrev pub invariant-loop-held : goal.invariant-loop-held
invariant-loop-held l = l.tiles.items ≡ take l.held-index l.all
