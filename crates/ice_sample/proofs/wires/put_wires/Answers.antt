use Rattle.std.proofs.Common.{◌++◌, sym, arith, append-nil, ap, ◌∙◌}
use Rattle.std.specs.List.{flat_map}
use Rattle.std.proofs.lemmas.List.{take_all}
use Rattle.ice_base.specs.Lines.{text_of_lines}
use Rattle.ice_sample.specs.Wires.{all_global_lines, tile_wire_lines}
use Rattle.ice_sample.proofs.Counting.{tile_within}
use Rattle.ice_base.proofs.Pieces.{further}
use Rattle.ice_sample.proofs.Numbering.{lines_more}
use Rattle.ice_sample.proofs.wires.put_wires.Goals as goal

pub loop-tile-init : goal.loop-tile-init
loop-tile-init c =
    c.in_ok-put_global_wires.ensures
    ∙ ap (λ ts. c.args.text.now.items ++ text_of_lines (all_global_lines ts)) c.deref.ensures.value
    ∙ ap (λ lines. c.args.text.now.items ++ text_of_lines lines) (sym (append-nil (all_global_lines c.args.grid.now.tiles.items)))

pub put_tile_wires-requires : goal.put_tile_wires-requires
put_tile_wires-requires c =
    let g = c.args.grid.now in
    tile_within g.width g.height c.deref-tile-items.result.now c.loop-tile.tile-index _ (c.deref-tile-items.ensures.value ∙ g.tiled) (omega arith)

pub loop-tile-preserved : goal.loop-tile-preserved
loop-tile-preserved c =
    let g = c.args.grid.now in
    further _ _ _ _ _ _ c.loop-tile.invariant c.in_ok-put_tile_wires.ensures
    (lines_more (all_global_lines g.tiles.items) (tile_wire_lines g.width g.height) c.deref-tile-items.result.now c.loop-tile.tile-index _ (omega arith))

pub returns : goal.returns
returns c =
    let g = c.args.grid.now in
    let all = take_all c.loop-tile.tile-index c.deref-tile-items.result.now (omega arith) ∙ c.deref-tile-items.ensures.value in
    c.loop-tile.invariant ∙ ap (λ ts. c.args.text.now.items ++ text_of_lines (all_global_lines g.tiles.items ++ flat_map (tile_wire_lines g.width g.height) ts)) all
