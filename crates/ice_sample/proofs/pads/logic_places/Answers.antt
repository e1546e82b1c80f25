use Rattle.std.proofs.Common.{arith}
use Rattle.ice_sample.specs.declared.grid.Tile.{Tile}
use Rattle.ice_sample.specs.Sections.{if_logic}
use Rattle.ice_base.proofs.Pieces.{part_more}
use Rattle.ice_sample.proofs.Numbering.{grown}
use Rattle.ice_sample.proofs.pads.logic_places.Goals as goal

pub loop-tile-preserved : goal.loop-tile-preserved
loop-tile-preserved c =
    grown _ _ _ _ _ c.loop-tile.invariant c.in_ok-add_logic.ensures (part_more (λ (t : Tile). if_logic t.kind t.at) c.args.tiles.now c.loop-tile.tile-index _ (omega arith))
