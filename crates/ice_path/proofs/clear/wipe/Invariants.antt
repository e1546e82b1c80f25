use Rattle.std.proofs.Common.{◌≡◌, length, drop}
use Rattle.ice_path.specs.Search.{IsOnlyAt}
use Rattle.ice_path.proofs.clear.wipe.Given as goal

abbrev pub invariant-loop-wire : goal.invariant-loop-wire
invariant-loop-wire l = record {
  labels : length l.labels ≡ length l.fn.labels;
  settled : length l.settled ≡ length l.fn.labels;
  only : IsOnlyAt (drop l.wire-index l.touched) l.labels l.settled;
}
