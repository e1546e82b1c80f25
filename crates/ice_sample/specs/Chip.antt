-- The text of the sample chip.
use Rattle.std.specs.Prelude.{ℕ, List, ◌++◌}
use Rattle.ice_base.specs.declared.number.TileAt.{TileAt}
use Rattle.ice_base.specs.Lines.{text_of_lines}
use Rattle.ice_sample.specs.declared.grid.Tile.{Tile}
use Rattle.ice_sample.specs.declared.pads.Pad.{Pad}
use Rattle.ice_sample.specs.Tiles.{tiles_of}
use Rattle.ice_sample.specs.Sections.{device_lines, io_places, logic_places, pads_at, pin_lines, global_lines, input_enable_lines, column_buffer_lines, tile_lines}
use Rattle.ice_sample.specs.Bits.{io_bit_lines, logic_bit_lines}
use Rattle.ice_sample.specs.Wires.{all_wire_lines}
use Rattle.ice_sample.specs.Groups.{all_group_lines}

-- the sections that say what a chip has, from the places of its IO tiles, its pads, the places of its logic tiles, and its tiles
unfoldable pub sections_of : ℕ → ℕ → List TileAt → List Pad → List TileAt → List Tile → List (List ℕ)
sections_of w h io pads logic ts =
    device_lines w h ++ pin_lines pads ++ global_lines io ++ input_enable_lines pads ++ column_buffer_lines logic ++ tile_lines ts

abbrev pub layout_lines : ℕ → ℕ → List Tile → List (List ℕ)
layout_lines w h ts = sections_of w h (io_places ts) (pads_at (io_places ts)) (logic_places ts) ts

-- the lines of the sample chip of this width and height, section by section
unfoldable pub sample_chip_lines : ℕ → ℕ → List (List ℕ)
sample_chip_lines w h =
    layout_lines w h (tiles_of w h) ++ io_bit_lines ++ logic_bit_lines
    ++ all_wire_lines w h (tiles_of w h) ++ all_group_lines w h (tiles_of w h)

-- the text of the sample chip of this width and height
abbrev pub sample_chip_text : ℕ → ℕ → List ℕ
sample_chip_text w h = text_of_lines (sample_chip_lines w h)
