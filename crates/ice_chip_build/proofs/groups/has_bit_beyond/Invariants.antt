use Rattle.std.proofs.Common.{◌≡◌, drop}
use Rattle.ice_chip.specs.WholeFaults.{has_bit_beyond}
use Rattle.ice_chip_build.proofs.groups.has_bit_beyond.Given as goal

abbrev pub invariant-loop-bit : goal.invariant-loop-bit
invariant-loop-bit l = has_bit_beyond l.limit l.bits ≡ has_bit_beyond l.limit (drop l.bit-index l.bits)
