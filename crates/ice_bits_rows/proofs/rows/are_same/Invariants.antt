use Rattle.std.proofs.Common.{◌≡◌, drop}
use Rattle.ice_base.specs.Places.{same_place}
use Rattle.std.specs.Cmp.Lexicographic.{pointwise}
use Rattle.ice_bits_rows.proofs.rows.are_same.Given as goal

abbrev pub invariant-loop-k : goal.invariant-loop-k
invariant-loop-k l = pointwise same_place l.bits l.others ≡ pointwise same_place (drop l.k l.bits) (drop l.k l.others)
