use Rattle.std.proofs.Common.{◌≡◌, drop}
use Rattle.ice_decode_circuit.specs.ForeignPlaces.{with_places}
use Rattle.ice_decode_circuit.proofs.foreign.add_places.Given as goal

abbrev pub invariant-loop-bit : goal.invariant-loop-bit
invariant-loop-bit l = with_places l.fn.places.keys l.bits ≡ with_places l.places.keys (drop l.bit-index l.bits)
