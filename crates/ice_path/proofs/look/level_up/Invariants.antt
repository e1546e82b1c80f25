use Rattle.std.proofs.Common.{◌≡◌, ◌+◌, ◌<◌, ◌≤◌, ℕ, length, slice_index}
use Rattle.ice_path.specs.Looks.{AreFar}
use Rattle.ice_path.proofs.look.level_up.Given as goal

abbrev pub invariant-loop-place : goal.invariant-loop-place
invariant-loop-place l = record {
  long : length l.beyond ≡ 64;
  rises : (k : ℕ) → k < 63 → slice_index l.beyond k ≤ slice_index l.beyond (k + 1);
  slope : (k : ℕ) → k < l.place → slice_index l.beyond (k + 1) ≤ slice_index l.beyond k + 1;
  lower : (k : ℕ) → slice_index l.beyond k ≤ slice_index l.fn.beyond k;
  far : (far : ℕ) → AreFar far l.fn.beyond → AreFar far l.beyond;
}
