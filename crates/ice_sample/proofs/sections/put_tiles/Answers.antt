use Rattle.std.proofs.Common.{◌++◌, arith}
use Rattle.ice_sample.specs.declared.grid.Tile.{Tile}
use Rattle.ice_sample.specs.Lines.{place_words}
use Rattle.ice_sample.specs.Sections.{tile_heading}
use Rattle.ice_base.proofs.Pieces.{further, line_more}
use Rattle.ice_sample.proofs.sections.put_tiles.Goals as goal

pub loop-tile-preserved : goal.loop-tile-preserved
loop-tile-preserved c =
    further _ _ _ _ _ _ c.loop-tile.invariant c.in_ok-put_tile.ensures
    (line_more (λ (t : Tile). tile_heading t.kind ++ place_words t.at) c.args.tiles.now c.loop-tile.tile-index _ (omega arith))
