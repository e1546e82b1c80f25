use Rattle.std.proofs.Common.{◌≡◌}
use Rattle.ice_bits_rows.specs.Uses.{uses_below}
use Rattle.ice_bits_rows.proofs.uses.uses_of.Given as goal

abbrev pub invariant-loop-wire : goal.invariant-loop-wire
invariant-loop-wire l = l.uses.items ≡ uses_below l.chip l.wire
