use Rattle.std.proofs.Common.{◌∙◌, ap, arith}
use Rattle.ice_net.specs.Drivers.{output_of}
use Rattle.ice_base.proofs.Pushed.{mapped_push, mapped_all}
use Rattle.ice_check.proofs.lists.outputs.Goals as goal

pub loop-cell-preserved : goal.loop-cell-preserved
loop-cell-preserved c =
    mapped_push output_of c.args.cells.now c.loop-cell.cell-index _ _ _ _ (omega arith) c.loop-cell.invariant c.in_ok-push.ensures.items (c.output_of.ensures ∙ ap output_of c.cell-item.is)

pub returns : goal.returns
returns c = mapped_all output_of c.args.cells.now c.loop-cell.cell-index _ (omega arith) c.loop-cell.invariant
