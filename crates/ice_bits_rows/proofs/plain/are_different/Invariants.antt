use Rattle.std.proofs.Common.{◌≡◌, drop}
use Rattle.ice_bits_rows.specs.Own.{each_once}
use Rattle.ice_bits_rows.proofs.plain.are_different.Given as goal

abbrev pub invariant-loop-k : goal.invariant-loop-k
invariant-loop-k l = each_once l.bits ≡ each_once (drop l.k l.bits)
