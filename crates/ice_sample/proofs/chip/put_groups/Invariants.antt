use Rattle.std.proofs.Common.{◌≡◌, ◌++◌, take}
use Rattle.std.specs.List.{flat_map}
use Rattle.ice_base.specs.Lines.{text_of_lines}
use Rattle.ice_sample.specs.Groups.{tile_group_lines}
use Rattle.ice_sample.proofs.chip.put_groups.Given as goal

abbrev pub invariant-loop-tile : goal.invariant-loop-tile
invariant-loop-tile l =
    l.text.items ≡ l.fn.text.items ++ text_of_lines (flat_map (tile_group_lines l.grid.width l.grid.height) (take l.tile-index l.tile-items))
