use Rattle.std.proofs.Common.{arith}
use Rattle.ice_decode.specs.Cells.{cells_in}
use Rattle.ice_sim.proofs.Turns.{flat_joined}
use Rattle.ice_sim.proofs.stores.cells_of.Goals as goal

pub loop-tile-preserved : goal.loop-tile-preserved
loop-tile-preserved c =
    flat_joined cells_in _ _ c.loop-tile.cells.items c.add_cells.new.cells.items c.args.tiles.now c.loop-tile.tile-index (omega arith) c.loop-tile.invariant c.in_ok-add_cells.ensures
