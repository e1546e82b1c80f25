use Rattle.std.proofs.Common.{arith}
use Rattle.std.specs.List.{flat_map}
use Rattle.ice_decode.specs.Cells.{cells_in}
use Rattle.ice_back.proofs.Rooms.{listed_next}
use Rattle.ice_back.proofs.logic.cells_of.Goals as goal

pub loop-tile-preserved : goal.loop-tile-preserved
loop-tile-preserved c =
    listed_next cells_in c.args.tiles.now c.loop-tile.tile-index _ (flat_map cells_in c.args.tiles.now) c.loop-tile.cells.items c.add_cells_of.new.cells.items (omega arith) c.loop-tile.invariant
    c.in_ok-add_cells_of.ensures
