use Rattle.std.proofs.Common.{◌≡◌, ◌++◌, map}
use Rattle.std.specs.List.{range_with_len}
use Rattle.ice_asc.specs.Hex.{row_digit}
use Rattle.ice_asc.proofs.write.put_digits.Given as goal

abbrev pub invariant-loop-place : goal.invariant-loop-place
invariant-loop-place l = l.out.items ≡ l.fn.out.items ++ map (row_digit l.words l.row) (range_with_len 0 l.place)
