use Rattle.std.proofs.Common.{◌≡◌, ◌++◌, subst}
use Rattle.ice_base.specs.Lines.{text_of_lines}
use Rattle.ice_sample.specs.Bits.{io_bit_lines, logic_bit_lines}
use Rattle.ice_sample.specs.Wires.{all_wire_lines}
use Rattle.ice_sample.specs.Groups.{all_group_lines}
use Rattle.ice_sample.specs.Chip.{layout_lines, sample_chip_lines}
use Rattle.ice_base.proofs.Pieces.{text_join, further}
use Rattle.ice_sample.proofs.chip.put_chip.Goals as goal

pub returns : goal.returns
unfolding sample_chip_lines
returns c =
    let g = c.args.grid.now in
    let w = g.width in
    let h = g.height in
    let ts = g.tiles.items in
    let layout = layout_lines w h ts in
    let wires = all_wire_lines w h ts in
    let groups = all_group_lines w h ts in
    let first = further _ _ _ _ _ _ c.in_ok-put_layout.ensures c.in_ok-put_io_functions.ensures (text_join layout io_bit_lines) in
    let second = further _ _ _ _ _ _ first c.in_ok-put_logic_functions.ensures (text_join (layout ++ io_bit_lines) logic_bit_lines) in
    let third = further _ _ _ _ _ _ second c.in_ok-put_wires.ensures (text_join (layout ++ io_bit_lines ++ logic_bit_lines) wires) in
    let fourth = further _ _ _ _ _ _ third c.in_ok-put_groups.ensures (text_join (layout ++ io_bit_lines ++ logic_bit_lines ++ wires) groups) in
    subst (λ tiles. c.put_groups.new.text.items ≡ c.args.text.now.items ++ text_of_lines (layout_lines w h tiles ++ io_bit_lines ++ logic_bit_lines ++ all_wire_lines w h tiles ++ all_group_lines w h tiles)) g.tiled fourth
