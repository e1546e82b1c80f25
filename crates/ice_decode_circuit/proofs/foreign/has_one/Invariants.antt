use Rattle.std.proofs.Common.{◌≡◌, drop}
use Rattle.std.specs.List.{list_any}
use Rattle.ice_bits.specs.Configuration.{bits_of}
use Rattle.ice_decode_circuit.proofs.foreign.has_one.Given as goal

abbrev pub invariant-loop-place : goal.invariant-loop-place
invariant-loop-place l = list_any (bits_of l.bits l.tile) l.places ≡ list_any (bits_of l.bits l.tile) (drop l.place-index l.places)
