use Rattle.std.proofs.Common.{◌≡◌, ◌++◌, subst}
use Rattle.ice_base.specs.Lines.{text_of_lines}
use Rattle.ice_sample.specs.Sections.{device_lines, pin_lines, global_lines, input_enable_lines, column_buffer_lines, tile_lines}
use Rattle.ice_sample.specs.Chip.{sections_of}
use Rattle.ice_base.proofs.Pieces.{text_join, further}
use Rattle.ice_sample.proofs.chip.put_sections.Goals as goal

pub returns : goal.returns
unfolding sections_of
returns c =
    let g = c.args.grid.now in
    let device = device_lines g.width g.height in
    let pins = pin_lines c.args.pads.now in
    let globals = global_lines c.args.io.now in
    let enables = input_enable_lines c.args.pads.now in
    let buffers = column_buffer_lines c.args.logic.now in
    let put_tiles = subst (λ tiles. c.put_tiles.new.text.items ≡ c.put_column_buffers.new.text.items ++ text_of_lines (tile_lines tiles)) c.deref.ensures.value c.in_ok-put_tiles.ensures in
    let first = further _ _ _ _ _ _ c.in_ok-put_device.ensures c.in_ok-put_pins.ensures (text_join device pins) in
    let second = further _ _ _ _ _ _ first c.in_ok-put_globals.ensures (text_join (device ++ pins) globals) in
    let third = further _ _ _ _ _ _ second c.in_ok-put_input_enables.ensures (text_join (device ++ pins ++ globals) enables) in
    let fourth = further _ _ _ _ _ _ third c.in_ok-put_column_buffers.ensures (text_join (device ++ pins ++ globals ++ enables) buffers) in
    further _ _ _ _ _ _ fourth put_tiles (text_join (device ++ pins ++ globals ++ enables ++ buffers) (tile_lines g.tiles.items))
