use Rattle.std.proofs.Common.{take}
use Rattle.ice_bits_rows.specs.Apart.{AreFresh, Marks}
use Rattle.ice_bits_rows.proofs.apart.mark_all.Given as goal

abbrev pub invariant-loop-bit : goal.invariant-loop-bit
invariant-loop-bit l = record {
  marks : Marks (take l.bit-index l.bits) l.fn.marks.items l.marks.items;
  fresh : AreFresh l.fn.marks.items (take l.bit-index l.bits);
}
