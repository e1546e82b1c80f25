use Rattle.std.proofs.Common.{arith}
use Rattle.ice_sim_sweep.proofs.Turns.{keepers_joined}
use Rattle.ice_sim_sweep.proofs.plan.keepers.Goals as goal

pub loop-i-preserved : goal.loop-i-preserved
loop-i-preserved c =
    keepers_joined c.args.signals _ _ c.loop-i.keepers.items c.add_keeper.new.keepers.items c.args.cells.now c.loop-i.i (omega arith) c.loop-i.invariant (rw c.index-cells-i.is at c.in_ok-add_keeper.ensures)
