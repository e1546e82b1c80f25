use Rattle.std.proofs.Common.{◌≡◌, drop}
use Rattle.ice_bits_rows.specs.Bundles.{has_bit}
use Rattle.ice_bits_rows.proofs.bundle.has_bit.Given as goal

abbrev pub invariant-loop-own : goal.invariant-loop-own
invariant-loop-own l = has_bit l.bits l.bit ≡ has_bit (drop l.own-index l.bits) l.bit
