use Rattle.std.proofs.Common.{◌≡◌, ℕ, ◌+◌, ◌*◌, ◌%◌, ◌<◌, false, length, get_or}
use Rattle.ice_ram_read.specs.RamData.{digit_at}
use Rattle.ice_ram_read.proofs.contents.row_word.Given as goal

abbrev pub invariant-loop-bit : goal.invariant-loop-bit
invariant-loop-bit l = record {
  long : length l.word ≡ 16;
  filled : (j : ℕ) → j < l.bit → get_or l.word j false ≡ digit_at l.digits (16 * (l.i % 16) + j);
}
