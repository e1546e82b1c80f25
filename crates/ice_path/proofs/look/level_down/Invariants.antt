use Rattle.std.proofs.Common.{◌≡◌, ◌+◌, ◌<◌, ◌≤◌, ℕ, length, slice_index}
use Rattle.ice_path.specs.Looks.{AreFar}
use Rattle.ice_path.proofs.look.level_down.Given as goal

abbrev pub invariant-loop-step : goal.invariant-loop-step
invariant-loop-step l = record {
  long : length l.beyond ≡ 64;
  rises : (k : ℕ) → 63 ≤ k + l.step → k < 63 → slice_index l.beyond k ≤ slice_index l.beyond (k + 1);
  lower : (k : ℕ) → slice_index l.beyond k ≤ slice_index l.fn.beyond k;
  far : (far : ℕ) → AreFar far l.fn.beyond → AreFar far l.beyond;
}
