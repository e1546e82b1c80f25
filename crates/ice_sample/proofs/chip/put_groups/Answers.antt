use Rattle.std.proofs.Common.{[], List, ℕ, ◌++◌, ap, ◌∙◌, arith}
use Rattle.std.specs.List.{flat_map}
use Rattle.std.proofs.lemmas.List.{take_all}
use Rattle.ice_base.specs.Lines.{text_of_lines}
use Rattle.ice_sample.specs.Groups.{tile_group_lines}
use Rattle.ice_sample.proofs.Counting.{tile_within}
use Rattle.ice_base.proofs.Pieces.{further}
use Rattle.ice_sample.proofs.Numbering.{lines_more, nothing_more}
use Rattle.ice_sample.proofs.chip.put_groups.Goals as goal

pub loop-tile-init : goal.loop-tile-init
loop-tile-init c = nothing_more c.args.text.now.items

pub put_tile_groups-requires : goal.put_tile_groups-requires
put_tile_groups-requires c =
    let g = c.args.grid.now in
    tile_within g.width g.height c.deref-tile-items.result.now c.loop-tile.tile-index _ (c.deref-tile-items.ensures.value ∙ g.tiled) (omega arith)

pub loop-tile-preserved : goal.loop-tile-preserved
loop-tile-preserved c =
    let g = c.args.grid.now in
    let none : List (List ℕ) = [] in
    further _ _ _ _ _ _ c.loop-tile.invariant c.in_ok-put_tile_groups.ensures
    (lines_more none (tile_group_lines g.width g.height) c.deref-tile-items.result.now c.loop-tile.tile-index _ (omega arith))

pub returns : goal.returns
returns c =
    let g = c.args.grid.now in
    let all = take_all c.loop-tile.tile-index c.deref-tile-items.result.now (omega arith) ∙ c.deref-tile-items.ensures.value in
    c.loop-tile.invariant ∙ ap (λ ts. c.args.text.now.items ++ text_of_lines (flat_map (tile_group_lines g.width g.height) ts)) all
