use Rattle.std.proofs.Common.{◌≡◌, ◌++◌, map}
use Rattle.std.specs.List.{range_with_len}
use Rattle.ice_base.specs.Lines.{text_of_lines}
use Rattle.ice_sample.specs.Groups.{groups_from, input_group}
use Rattle.ice_sample.proofs.pins.put_cell.Given as goal

abbrev pub invariant-loop-input : goal.invariant-loop-input
invariant-loop-input l =
    l.text.items ≡ l.fn.text.items ++ text_of_lines (groups_from l.tile.kind l.tile.at l.bit (map (input_group l.first l.cell) (range_with_len 0 l.input)))
