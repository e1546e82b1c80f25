use Rattle.std.proofs.Common.{◌≡◌, ℕ, ◌+◌, ◌*◌, ◌<◌, false, length, get_or}
use Rattle.ice_asc.specs.Hex.{row_bit}
use Rattle.ice_asc.proofs.hex.row_word.Given as goal

abbrev pub invariant-loop-bit : goal.invariant-loop-bit
invariant-loop-bit l = record {
  long : length l.word ≡ 16;
  filled : (j : ℕ) → j < l.bit → get_or l.word j false ≡ row_bit l.values (16 * l.number + j);
}
