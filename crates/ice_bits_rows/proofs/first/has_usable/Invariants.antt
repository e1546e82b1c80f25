use Rattle.std.proofs.Common.{◌≡◌, ◌+◌, drop, map}
use Rattle.ice_chip.specs.Views.{row_view, group_view}
use Rattle.ice_bits_rows.specs.FirstSound.{some_usable}
use Rattle.ice_bits_rows.proofs.first.has_usable.Given as goal

abbrev pub invariant-loop-k : goal.invariant-loop-k
invariant-loop-k l = some_usable l.fn.index.chip.now l.source.0 (group_view l.group) l.group.first.0 (map row_view l.group.rows.items)
    ≡ some_usable l.fn.index.chip.now l.source.0 (group_view l.group) (l.group.first.0 + l.k) (map row_view (drop l.k l.group.rows.items))
