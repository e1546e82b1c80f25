use Rattle.std.proofs.Common.{◌≡◌, take}
use Rattle.ice_core.proofs.machine.counts_of.Given as goal

abbrev pub invariant-loop-count : goal.invariant-loop-count
invariant-loop-count l = l.copies.items ≡ take l.count-index l.counts
