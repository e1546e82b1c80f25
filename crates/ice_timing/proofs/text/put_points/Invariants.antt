use Rattle.std.proofs.Common.{◌≡◌, ◌++◌, map, take}
use Rattle.ice_base.specs.Lines.{text_of_lines}
use Rattle.ice_timing.specs.PathText.{point_line}
use Rattle.ice_timing.proofs.text.put_points.Given as goal

abbrev pub invariant-loop-point : goal.invariant-loop-point
invariant-loop-point l =
    l.text.items ≡ l.fn.text.items ++ text_of_lines (map point_line (take l.point-index l.points))
