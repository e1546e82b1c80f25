use Rattle.std.proofs.Common.{◌≡◌, ℕ, ◌<◌, false, length, get_or}
use Rattle.ice_ram.specs.Ram.{written_bit}
use Rattle.ice_ram.proofs.word.written_word.Given as goal

abbrev pub invariant-loop-k : goal.invariant-loop-k
invariant-loop-k l = record {
  long : length l.word ≡ 16;
  filled : (j : ℕ) → j < l.k → get_or l.word j false ≡ written_bit l.mode l.pins l.old j;
}
