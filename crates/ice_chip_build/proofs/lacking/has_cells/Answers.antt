use Rattle.std.proofs.Common.{map, sym, ap, ◌∙◌}
use Rattle.ice_chip.specs.Names.{cell_function}
use Rattle.ice_chip.specs.LacksFunction.{has_function}
use Rattle.ice_chip.specs.Views.{function_view}
use Rattle.ice_chip.specs.declared.rows.TileKind.TheVariants.{Logic}
use Rattle.ice_chip.proofs.EachNumber.{lacks_one, one_more}
use Rattle.ice_chip_build.proofs.lacking.has_cells.Goals as goal

pub returns-then-not-has_function : goal.returns-then-not-has_function
returns-then-not-has_function c =
    let fs = map function_view c.args.functions.now in
    let same = ap (λ name. has_function Logic name fs) (sym c.cell_function.ensures) in
    sym (lacks_one Logic cell_function c.loop-cell.cell 8 fs c.loop-cell-test.true (same ∙ sym c.has_function.ensures ∙ c.if-not-has_function.true))

pub loop-cell-preserved : goal.loop-cell-preserved
loop-cell-preserved c =
    let fs = map function_view c.args.functions.now in
    let same = ap (λ name. has_function Logic name fs) (sym c.cell_function.ensures) in
    one_more Logic cell_function c.loop-cell.cell fs c.loop-cell.invariant (same ∙ sym c.has_function.ensures ∙ c.if-not-has_function.false)
