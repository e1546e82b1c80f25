use Rattle.std.proofs.Common.{◌≡◌, false, take}
use Rattle.ice_chip_read.specs.PlainRows.{has_blank}
use Rattle.ice_chip_read.proofs.front.name_ahead.Given as goal

abbrev pub invariant-loop-k : goal.invariant-loop-k
invariant-loop-k l = has_blank (take l.k l.text) ≡ false
