use Rattle.std.proofs.Common.{◌≡◌, ◌<◌, ℕ, Some, true, false, length, slice_get}
use Rattle.ice_path.specs.Search.{done}
use Rattle.ice_path.proofs.look.open_all.Given as goal

abbrev pub invariant-loop-wire : goal.invariant-loop-wire
invariant-loop-wire l = record {
  long : length l.settled ≡ length l.fn.settled;
  kept : (w : ℕ) → done l.settled w ≡ true → done l.fn.settled w ≡ true;
  gone : (j w : ℕ) → j < l.wire-index → slice_get l.marked j ≡ Some w → done l.settled w ≡ false;
}
