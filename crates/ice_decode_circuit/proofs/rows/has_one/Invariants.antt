use Rattle.std.proofs.Common.{◌≡◌, drop, map}
use Rattle.std.specs.List.{list_any}
use Rattle.ice_bits.specs.Configuration.{bit_in}
use Rattle.ice_decode_circuit.proofs.rows.has_one.Given as goal

abbrev pub invariant-loop-bit : goal.invariant-loop-bit
invariant-loop-bit l = list_any (λ v. v) (map (bit_in l.tile) l.bits) ≡ list_any (λ v. v) (map (bit_in l.tile) (drop l.bit-index l.bits))
