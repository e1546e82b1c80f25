use Rattle.std.proofs.Common.{◌≡◌, drop, map}
use Rattle.ice_chip_build.specs.BitsUsed.{groups_shared}
use Rattle.ice_chip.specs.Database.{tile_known}
use Rattle.ice_chip.specs.Views.{group_view, parts_view}
use Rattle.ice_chip_build.proofs.shared.with_groups.Given as goal

abbrev pub invariant-loop-group : goal.invariant-loop-group
invariant-loop-group l = record {
  tile : l.last.1 ≡ tile_known (parts_view l.parts).tiles l.last.0;
  shared : groups_shared (parts_view l.parts).tiles l.read.entries l.fn.known (parts_view l.parts).groups ≡ groups_shared (parts_view l.parts).tiles l.read.entries l.first (map group_view (drop l.group-index l.parts.groups.items));
}
