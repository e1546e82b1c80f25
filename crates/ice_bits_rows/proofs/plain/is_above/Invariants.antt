use Rattle.std.proofs.Common.{◌≡◌, drop}
use Rattle.ice_bits_rows.specs.Plain.{is_above}
use Rattle.ice_bits_rows.proofs.plain.is_above.Given as goal

abbrev pub invariant-loop-k : goal.invariant-loop-k
invariant-loop-k l = is_above l.values l.others ≡ is_above (drop l.k l.values) (drop l.k l.others)
