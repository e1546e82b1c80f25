use Rattle.std.proofs.Common.{◌≡◌, ◌++◌, take}
use Rattle.ice_base.specs.Lines.{text_of_lines}
use Rattle.ice_sample.specs.Sections.{tile_lines}
use Rattle.ice_sample.proofs.sections.put_tiles.Given as goal

abbrev pub invariant-loop-tile : goal.invariant-loop-tile
invariant-loop-tile l = l.text.items ≡ l.fn.text.items ++ text_of_lines (tile_lines (take l.tile-index l.tiles))
