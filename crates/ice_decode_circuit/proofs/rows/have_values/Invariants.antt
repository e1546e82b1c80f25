use Rattle.std.proofs.Common.{◌≡◌, drop, map}
use Rattle.std.specs.Bool.{beq}
use Rattle.std.specs.Cmp.Lexicographic.{pointwise}
use Rattle.ice_bits.specs.Configuration.{bit_in}
use Rattle.ice_decode_circuit.proofs.rows.have_values.Given as goal

abbrev pub invariant-loop-place : goal.invariant-loop-place
invariant-loop-place l =
    pointwise beq l.values (map (bit_in l.tile) l.bits) ≡ pointwise beq (drop l.place l.values) (map (bit_in l.tile) (drop l.place l.bits))
