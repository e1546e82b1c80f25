use Rattle.std.proofs.Common.{◌≡◌, ◌++◌, ◌≤◌}
use Rattle.ice_sample.specs.Lines.{binary}
use Rattle.ice_sample.proofs.text.put_binary.Given as goal

abbrev pub invariant-loop-left : goal.invariant-loop-left
invariant-loop-left l = record {
  few : l.left ≤ l.digits;
  written : l.text.items ++ binary l.left l.number ≡ l.fn.text.items ++ binary l.digits l.number;
}

abbrev pub decreases-loop-left : goal.decreases-loop-left
decreases-loop-left l = l.left
