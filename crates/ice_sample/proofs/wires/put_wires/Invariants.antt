use Rattle.std.proofs.Common.{◌≡◌, ◌++◌, take}
use Rattle.std.specs.List.{flat_map}
use Rattle.ice_base.specs.Lines.{text_of_lines}
use Rattle.ice_sample.specs.Wires.{all_global_lines, tile_wire_lines}
use Rattle.ice_sample.proofs.wires.put_wires.Given as goal

abbrev pub invariant-loop-tile : goal.invariant-loop-tile
invariant-loop-tile l =
    l.text.items ≡ l.fn.text.items ++ text_of_lines (all_global_lines l.grid.tiles.items ++ flat_map (tile_wire_lines l.grid.width l.grid.height) (take l.tile-index l.tile-items))
