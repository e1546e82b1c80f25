use Rattle.std.proofs.Common.{◌≡◌, ◌<◌, ℕ, length, slice_index}
use Rattle.ice_path.proofs.look.fill.Given as goal

abbrev pub invariant-loop-place : goal.invariant-loop-place
invariant-loop-place l = record {
  long : length l.beyond ≡ length l.fn.beyond;
  all : (k : ℕ) → k < l.place → slice_index l.beyond k ≡ l.cost;
}
