use Rattle.std.proofs.Common.{◌∙◌, arith, subst, sym, List}
use Rattle.std.specs.List.{IsDistinct}
use Rattle.std.proofs.lemmas.Map.Made.{IsDistinct-keys_filter}
use Rattle.ice_base.specs.declared.number.TileAt.{TileAt}
use Rattle.ice_chip.specs.Database.{same_tile}
use Rattle.ice_decode.specs.Cells.{is_logic_tile}
use Rattle.ice_back_points.proofs.ConfiguredFacts.{tile_next}
use Rattle.ice_back_points.proofs.configured.tile_set.Goals as goal

pub loop-tile-preserved : goal.loop-tile-preserved
loop-tile-preserved c =
    c.in_ok-insert.ensures.keys
    ∙ tile_next c.args.tiles.now c.loop-tile.set.keys c.loop-tile.tile-index _
    (subst (λ (tiles : List TileAt). IsDistinct same_tile tiles) (sym c.requires) (IsDistinct-keys_filter same_tile is_logic_tile c.args.chip.now.tiles c.is_chip.ensures.read.tiles_once)) (omega arith) c.loop-tile.invariant
