use Rattle.std.proofs.Common.{◌≡◌}
use Rattle.ice_chip.specs.LacksFunction.{has_kind, has_tile}
use Rattle.ice_chip.specs.Views.{parts_view}
use Rattle.ice_chip_build.proofs.lacking.has_tile.Given as goal

abbrev pub invariant-loop-tile : goal.invariant-loop-tile
invariant-loop-tile l =
    (goal.iterator-loop-tile).can_next l.tile-iterator × (goal.iterator-loop-tile).is_finite l.tile-iterator
    × (has_tile l.kind (parts_view l.parts).tiles ≡ has_kind l.kind l.tile-iterator)
