use Rattle.std.proofs.Common.{◌∙◌, ap, arith}
use Rattle.ice_net.specs.Drivers.{pin_of}
use Rattle.ice_base.proofs.Pushed.{mapped_push, mapped_all}
use Rattle.ice_check.proofs.lists.pins.Goals as goal

pub loop-cell-preserved : goal.loop-cell-preserved
loop-cell-preserved c =
    mapped_push pin_of c.args.cells.now c.loop-cell.cell-index _ _ _ _ (omega arith) c.loop-cell.invariant c.in_ok-push.ensures.items (c.pin_of.ensures ∙ ap pin_of c.cell-item.is)

pub returns : goal.returns
returns c = mapped_all pin_of c.args.cells.now c.loop-cell.cell-index _ (omega arith) c.loop-cell.invariant
