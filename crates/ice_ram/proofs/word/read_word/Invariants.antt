use Rattle.std.proofs.Common.{◌≡◌, ℕ, ◌<◌, false, length, get_or}
use Rattle.ice_ram.specs.Ram.{read_bit}
use Rattle.ice_ram.proofs.word.read_word.Given as goal

abbrev pub invariant-loop-p : goal.invariant-loop-p
invariant-loop-p l = record {
  long : length l.word ≡ 16;
  filled : (j : ℕ) → j < l.p → get_or l.word j false ≡ read_bit l.mode l.pins l.old j;
}
