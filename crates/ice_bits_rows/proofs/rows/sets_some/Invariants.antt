use Rattle.std.proofs.Common.{◌≡◌, drop, map}
use Rattle.std.specs.List.{list_any}
use Rattle.ice_chip.specs.Views.{row_view, group_view}
use Rattle.ice_bits.specs.Settings.{values_of}
use Rattle.ice_bits_rows.specs.Sound.{sets}
use Rattle.ice_bits_rows.proofs.rows.sets_some.Given as goal

abbrev pub invariant-loop-bit : goal.invariant-loop-bit
invariant-loop-bit l = list_any (λ v. v) (values_of (sets (group_view l.group) (row_view l.row)) (group_view l.other))
    ≡ list_any (λ v. v) (map (sets (group_view l.group) (row_view l.row) l.other.tile) (drop l.bit-index l.other.bits.items))
