use Rattle.std.proofs.Common.{◌≡◌, ℕ, [], length}
use Rattle.ice_anneal_board.specs.Noting.{nets_at}
use Rattle.ice_anneal_board.proofs.wiring.untouched.Given as goal

abbrev pub invariant-loop-k : goal.invariant-loop-k
invariant-loop-k l = record {
  counts : length l.touching.items ≡ l.k;
  none : (c : ℕ) → nets_at l.touching.items c ≡ [];
}
