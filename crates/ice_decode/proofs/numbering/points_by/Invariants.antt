use Rattle.std.proofs.Common.{◌≡◌, map, take}
use Rattle.std.specs.List.{range_with_len}
use Rattle.ice_decode.specs.Reads.{wire_point}
use Rattle.ice_decode.specs.Points.{points_by}
use Rattle.ice_decode.proofs.numbering.points_by.Given as goal

abbrev pub invariant-loop-wire : goal.invariant-loop-wire
invariant-loop-wire l = l.points.items ≡ map wire_point (range_with_len 0 l.wire)

abbrev pub invariant-loop-tile : goal.invariant-loop-tile
invariant-loop-tile l = l.points.items ≡ points_by l.wires (take l.tile-index l.tiles)
