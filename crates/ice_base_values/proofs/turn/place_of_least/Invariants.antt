use Rattle.std.proofs.Common.{ℕ, ◌<◌, ◌≤◌, length, get_or}
use Rattle.ice_base_values.specs.Order.{At}
use Rattle.ice_base_values.proofs.turn.place_of_least.Given as goal

abbrev pub invariant-loop-i : goal.invariant-loop-i
invariant-loop-i l = record {
  within : l.least < length l.points;
  below : (j p : ℕ) → j < l.i → At l.points j p → get_or l.points l.least 0 ≤ p;
}
