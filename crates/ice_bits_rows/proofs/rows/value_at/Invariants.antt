use Rattle.std.proofs.Common.{◌≡◌, drop}
use Rattle.ice_bits_rows.specs.Sound.{value_at}
use Rattle.ice_bits_rows.proofs.rows.value_at.Given as goal

abbrev pub invariant-loop-k : goal.invariant-loop-k
invariant-loop-k l = value_at l.bits l.values l.bit ≡ value_at (drop l.k l.bits) (drop l.k l.values) l.bit
