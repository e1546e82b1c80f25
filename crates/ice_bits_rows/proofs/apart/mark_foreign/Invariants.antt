use Rattle.std.proofs.Common.{take}
use Rattle.ice_bits_rows.specs.Apart.{Marks}
use Rattle.ice_bits_rows.proofs.apart.mark_foreign.Given as goal

abbrev pub invariant-loop-bit : goal.invariant-loop-bit
invariant-loop-bit l = Marks (take l.bit-index l.bits) l.fn.marks.items l.marks.items
