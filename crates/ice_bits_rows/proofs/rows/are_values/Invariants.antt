use Rattle.std.proofs.Common.{◌≡◌, drop, map}
use Rattle.std.specs.Bool.{beq}
use Rattle.std.specs.Cmp.Lexicographic.{pointwise}
use Rattle.ice_chip.specs.Views.{row_view, group_view}
use Rattle.ice_bits.specs.Settings.{values_of}
use Rattle.ice_bits_rows.specs.Sound.{sets}
use Rattle.ice_bits_rows.proofs.rows.are_values.Given as goal

abbrev pub invariant-loop-k : goal.invariant-loop-k
invariant-loop-k l = pointwise beq l.values (values_of (sets (group_view l.group) (row_view l.row)) (group_view l.other))
    ≡ pointwise beq (drop l.k l.values) (map (sets (group_view l.group) (row_view l.row) l.other.tile) (drop l.k l.other.bits.items))
