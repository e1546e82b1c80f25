use Rattle.std.proofs.Common.{◌≡◌, drop, map}
use Rattle.ice_chip_build.specs.BitsUsed.{with_uses}
use Rattle.ice_chip.specs.SharedFunction.{bit_use}
use Rattle.ice_chip_build.specs.UsedViews.{used_view}
use Rattle.ice_chip_build.proofs.shared.UsedBits.note_bits.Given as goal

abbrev pub invariant-loop-bit : goal.invariant-loop-bit
invariant-loop-bit l = with_uses (used_view l.fn.self) (map (bit_use l.kind l.is_read l.line) l.bits) ≡ with_uses (used_view l.self) (map (bit_use l.kind l.is_read l.line) (drop l.bit-index l.bits))
