use Rattle.std.proofs.Common.{◌≡◌, drop}
use Rattle.ice_emit_bits.specs.Adds.{AreLeft, values_in}
use Rattle.ice_emit_bits.proofs.ones.set_ones.Given as goal

abbrev pub invariant-loop-k : goal.invariant-loop-k
invariant-loop-k l = AreLeft l.chip l.fn.bits l.bits (values_in l.tile l.places l.values) (values_in l.tile (drop l.k l.places) (drop l.k l.values))
