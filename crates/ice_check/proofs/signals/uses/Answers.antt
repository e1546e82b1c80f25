use Rattle.std.proofs.Common.{◌++◌, ◌∙◌, ap, sym, take, arith}
use Rattle.std.specs.List.{flat_map}
use Rattle.std.proofs.lemmas.List.{take_all}
use Rattle.ice_check.specs.Faults.{uses_of}
use Rattle.ice_check.proofs.Uses.{uses_more}
use Rattle.ice_check.proofs.signals.uses.Goals as goal

pub loop-cell-preserved : goal.loop-cell-preserved
loop-cell-preserved c =
    let before = flat_map uses_of (take c.loop-cell.cell-index c.args.cells.now) in
    c.in_ok-add_uses.ensures ∙ ap (λ uses. uses ++ uses_of c.cell-item.result) c.loop-cell.invariant ∙ ap (λ cell. before ++ uses_of cell) c.cell-item.is
    ∙ sym (uses_more c.args.cells.now c.loop-cell.cell-index _ (omega arith))

pub returns : goal.returns
returns c = c.loop-cell.invariant ∙ ap (flat_map uses_of) (take_all c.loop-cell.cell-index c.args.cells.now (omega arith))
