use Rattle.std.proofs.Common.{◌≡◌, drop}
use Rattle.std.specs.List.{list_any}
use Rattle.ice_bits_rows.specs.Bundles.{has_bit}
use Rattle.ice_bits_rows.proofs.plain.is_meeting.Given as goal

abbrev pub invariant-loop-bit : goal.invariant-loop-bit
invariant-loop-bit l = list_any (has_bit l.group.bits.items) l.other.bits.items ≡ list_any (has_bit l.group.bits.items) (drop l.bit-index l.other.bits.items)
