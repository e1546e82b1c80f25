use Rattle.std.proofs.Common.{◌≡◌, ◌+◌, drop, map}
use Rattle.ice_chip.specs.Views.{row_view, group_view}
use Rattle.ice_bits.specs.Settings.{values_of, number_with}
use Rattle.ice_bits_rows.specs.Sound.{sets}
use Rattle.ice_bits_rows.proofs.rows.number_with.Given as goal

abbrev pub invariant-loop-k : goal.invariant-loop-k
invariant-loop-k l = number_with (values_of (sets (group_view l.group) (row_view l.row)) (group_view l.other)) l.other.first.0 (map row_view l.other.rows.items)
    ≡ number_with (values_of (sets (group_view l.group) (row_view l.row)) (group_view l.other)) (l.other.first.0 + l.k) (map row_view (drop l.k l.other.rows.items))
