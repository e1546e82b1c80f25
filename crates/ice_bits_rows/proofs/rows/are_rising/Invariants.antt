use Rattle.std.proofs.Common.{◌≡◌, drop}
use Rattle.ice_bits_rows.specs.Own.{rises_from}
use Rattle.ice_bits_rows.proofs.rows.are_rising.Given as goal

abbrev pub invariant-loop-bit : goal.invariant-loop-bit
invariant-loop-bit l = rises_from 0 l.bits ≡ rises_from l.low (drop l.bit-index l.bits)
