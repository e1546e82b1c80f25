use Rattle.std.proofs.Common.{◌≡◌, ℕ, ◌+◌, ◌<◌, false, length, get_or}
use Rattle.ice_ram.specs.Ports.{taken_at}
use Rattle.ice_ram.proofs.ports.word_at.Given as goal

abbrev pub invariant-loop-bit : goal.invariant-loop-bit
invariant-loop-bit l = record {
  long : length l.word ≡ 16;
  filled : (j : ℕ) → j < l.bit → get_or l.word j false ≡ taken_at l.drives (l.k + j);
}
