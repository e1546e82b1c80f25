use Rattle.std.proofs.Common.{◌≡◌, ◌++◌, drop}
use Rattle.ice_chip.specs.Views.{row_view, group_view}
use Rattle.ice_bits_rows.specs.Sound.{rows_on, sets}
use Rattle.ice_bits_rows.specs.Lists.{views}
use Rattle.ice_bits_rows.specs.Alone.{in_tile, listed_one}
use Rattle.ice_bits_rows.proofs.alone.is_alone.Given as goal

abbrev pub invariant-loop-other : goal.invariant-loop-other
invariant-loop-other l = rows_on (sets (group_view l.group) (row_view l.row)) (in_tile l.group.tile (views l.groups))
    ≡ listed_one l.on ++ rows_on (sets (group_view l.group) (row_view l.row)) (in_tile l.group.tile (views (drop l.other-index l.groups)))
