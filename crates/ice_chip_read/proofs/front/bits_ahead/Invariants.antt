use Rattle.std.proofs.Common.{◌≡◌, length}
use Rattle.ice_chip_read.proofs.BitFronts.{AreBitsTo}
use Rattle.ice_chip_read.proofs.front.bits_ahead.Given as goal

abbrev pub invariant-loop-k : goal.invariant-loop-k
invariant-loop-k l = record {
  room : l.bits.capacity ≡ 8;
  count : length l.bits.items ≡ l.k;
  read : AreBitsTo l.text l.left l.bits.items;
}
