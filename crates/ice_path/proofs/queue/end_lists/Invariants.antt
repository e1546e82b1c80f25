use Rattle.std.proofs.Common.{◌≡◌, ◌<◌, ℕ, length, slice_index}
use Rattle.ice_path.proofs.queue.end_lists.Given as goal

abbrev pub invariant-loop-sum : goal.invariant-loop-sum
invariant-loop-sum l = record {
  long : length l.heads ≡ length l.fn.heads;
  none : (s : ℕ) → s < l.sum → slice_index l.heads s ≡ 0;
}
