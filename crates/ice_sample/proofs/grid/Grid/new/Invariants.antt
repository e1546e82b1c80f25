use Rattle.std.proofs.Common.{◌≡◌, ◌+◌, ◌*◌, ◌≤◌, map}
use Rattle.std.specs.List.{range_with_len}
use Rattle.ice_sample.specs.Tiles.{tiles_before, wires_before}
use Rattle.ice_sample.proofs.grid.Grid.new.Given as goal

abbrev pub invariant-loop-place : goal.invariant-loop-place
invariant-loop-place l = record {
  tiled : l.tiles.items ≡ tiles_before l.width l.height l.place;
  numbered : l.first_wires.items ≡ map (wires_before l.width l.height) (range_with_len 0 l.place);
  counted : l.wires ≡ wires_before l.width l.height l.place;
  few : l.wires ≤ 8 + 116 * l.place;
}
