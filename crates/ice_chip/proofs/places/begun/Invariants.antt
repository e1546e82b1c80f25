use Rattle.std.proofs.Common.{◌≡◌, ℕ, ◌+◌, ◌-◌, ◌<◌, ◌≤◌, length, slice_index_or}
use Rattle.ice_chip.specs.declared.sections.Group.{Group}
use Rattle.ice_chip.proofs.places.begun.Given as goal

abbrev pub invariant-loop-low : goal.invariant-loop-low
invariant-loop-low l = record {
  order : l.low ≤ l.high;
  most : l.high ≤ length l.groups;
  before : (k : ℕ) (d : Group) → k + 1 ≡ l.low → (slice_index_or l.groups k d).first.0 ≤ l.row;
  behind : (d : Group) → l.high < length l.groups → l.row < (slice_index_or l.groups l.high d).first.0;
}

abbrev pub decreases-loop-low : goal.decreases-loop-low
decreases-loop-low l = l.high - l.low
