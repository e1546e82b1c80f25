use Rattle.std.proofs.Common.{◌≡◌, ◌+◌, ◌-◌, ◌<◌, ◌≤◌, ◌⊎◌, ℕ, length, slice_index}
use Rattle.ice_negotiate_round.proofs.raising.raise.Given as goal

abbrev pub invariant-loop-w : goal.invariant-loop-w
invariant-loop-w g l = record {
  long : length l.history ≡ length l.fn.history;
  each : (v : ℕ) → v < l.w → slice_index l.history v ≡ slice_index l.fn.history v + (slice_index l.counts.closed v - 1);
}
