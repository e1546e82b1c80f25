use Rattle.std.proofs.Common.{arith}
use Rattle.ice_decode.specs.Pads.{pads_in}
use Rattle.ice_sim.proofs.Turns.{flat_joined}
use Rattle.ice_sim.proofs.stores.pads_of.Goals as goal

pub loop-tile-preserved : goal.loop-tile-preserved
loop-tile-preserved c =
    flat_joined pads_in _ _ c.loop-tile.pads.items c.add_pads.new.pads.items c.args.tiles.now c.loop-tile.tile-index (omega arith) c.loop-tile.invariant c.in_ok-add_pads.ensures
