use Rattle.std.proofs.Common.{◌≡◌, ℕ, length}
use Rattle.ice_anneal_board.specs.Noting.{Wired}
use Rattle.ice_anneal_board.proofs.wiring.note_nets.Given as goal

abbrev pub invariant-loop-k : goal.invariant-loop-k
invariant-loop-k l = record {
  counts : length l.touching.items ≡ length l.initial.touching.items;
  wired : (count : ℕ) → Wired count l.nets 0 l.initial.touching.items → Wired count l.nets l.k l.touching.items;
}
