use Rattle.std.proofs.Common.{◌≡◌, ◌++◌}
use Rattle.std.specs.List.{flat_map, range_with_len}
use Rattle.ice_base.specs.Lines.{text_of_lines}
use Rattle.ice_sample.specs.Groups.{groups_from, cell_groups}
use Rattle.ice_sample.proofs.pins.put_inputs.Given as goal

abbrev pub invariant-loop-cell : goal.invariant-loop-cell
invariant-loop-cell l =
    l.text.items ≡ l.fn.text.items ++ text_of_lines (groups_from l.tile.kind l.tile.at l.bit (flat_map (cell_groups l.first) (range_with_len 0 l.cell)))
