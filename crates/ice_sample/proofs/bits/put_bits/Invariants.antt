use Rattle.std.proofs.Common.{◌≡◌, ◌++◌}
use Rattle.ice_sample.specs.Bits.{bit_words}
use Rattle.ice_sample.proofs.bits.put_bits.Given as goal

abbrev pub invariant-loop-bit : goal.invariant-loop-bit
invariant-loop-bit l = l.text.items ≡ l.fn.text.items ++ bit_words l.columns l.first l.bit
