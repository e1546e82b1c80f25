use Rattle.std.proofs.Common.{◌≡◌, drop}
use Rattle.std.specs.Bool.{beq}
use Rattle.std.specs.Cmp.Lexicographic.{pointwise}
use Rattle.ice_bits_rows.proofs.rows.are_alike.Given as goal

abbrev pub invariant-loop-k : goal.invariant-loop-k
invariant-loop-k l = pointwise beq l.values l.others ≡ pointwise beq (drop l.k l.values) (drop l.k l.others)
