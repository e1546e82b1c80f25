use Rattle.std.proofs.Common.{◌≡◌, drop}
use Rattle.std.specs.List.{list_any}
use Rattle.ice_chip.specs.Views.{group_view}
use Rattle.ice_bits_rows.specs.Bundles.{is_shared, shares_bit}
use Rattle.ice_bits_rows.proofs.bundle.shares_bit.Given as goal

abbrev pub invariant-loop-bit : goal.invariant-loop-bit
invariant-loop-bit l = shares_bit l.fn.index.chip.now (group_view l.group) ≡ list_any (is_shared l.fn.index.chip.now l.group.tile l.group.wire.0) (drop l.bit-index l.group.bits.items)
