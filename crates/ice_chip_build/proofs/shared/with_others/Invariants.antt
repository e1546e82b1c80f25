use Rattle.std.proofs.Common.{◌≡◌, drop, false, map}
use Rattle.ice_chip_build.specs.BitsUsed.{with_others}
use Rattle.ice_chip.specs.SharedFunction.{bit_use}
use Rattle.ice_chip_build.proofs.shared.with_others.Given as goal

abbrev pub invariant-loop-bit : goal.invariant-loop-bit
invariant-loop-bit l = with_others l.read.entries l.fn.known (map (bit_use l.kind false l.line) l.bits) ≡ with_others l.read.entries l.first (map (bit_use l.kind false l.line) (drop l.bit-index l.bits))
