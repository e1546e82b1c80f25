use Rattle.std.proofs.Common.{◌≡◌, drop, map}
use Rattle.ice_chip.specs.Database.{tile_known}
use Rattle.ice_chip.specs.Views.{group_view, parts_view}
use Rattle.ice_chip.specs.WholeFaults.{group_beyond_tile}
use Rattle.ice_chip_build.proofs.groups.group_beyond_tile.Given as goal

abbrev pub invariant-loop-group : goal.invariant-loop-group
invariant-loop-group l = record {
  tile : l.last.1 ≡ tile_known (parts_view l.parts).tiles l.last.0;
  line : group_beyond_tile (parts_view l.parts).tiles (parts_view l.parts).groups ≡ group_beyond_tile (parts_view l.parts).tiles (map group_view (drop l.group-index l.parts.groups.items));
}
