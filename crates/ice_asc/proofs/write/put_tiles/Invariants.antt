use Rattle.std.proofs.Common.{◌≡◌, ◌++◌, take}
use Rattle.std.specs.List.{flat_map}
use Rattle.ice_base.specs.Lines.{text_of_lines}
use Rattle.ice_asc.specs.Text.{tile_lines}
use Rattle.ice_asc.proofs.write.put_tiles.Given as goal

abbrev pub invariant-loop-tile : goal.invariant-loop-tile
invariant-loop-tile l = l.out.items ≡ l.fn.out.items ++ text_of_lines (flat_map (tile_lines l.bits) (take l.tile-index l.tiles))
