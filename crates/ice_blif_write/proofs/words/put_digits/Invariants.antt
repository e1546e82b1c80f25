use Rattle.std.proofs.Common.{◌≡◌, ◌≤◌, ◌++◌}
use Rattle.ice_blif_write.specs.Text.{digits_of}
use Rattle.ice_blif_write.proofs.words.put_digits.Given as goal

abbrev pub invariant-loop-left : goal.invariant-loop-left
invariant-loop-left l = record {
  few : l.left ≤ l.width;
  written : l.out.items ++ digits_of l.left l.number ≡ l.fn.out.items ++ digits_of l.width l.number;
}

abbrev pub decreases-loop-left : goal.decreases-loop-left
decreases-loop-left l = l.left
